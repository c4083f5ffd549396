-- The next starts on a unit are those in the nearest later period.
use Rattle.std.proofs.Common.{◌≡◌, ℕ, ◌<◌, ◌≤◌, List, length, arith, Bool, true, false, sym, ap, ◌∙◌, subst, inl, inr, ◌&&◌, ltb, leb, eqb, None}
use Rattle.std.specs.Prelude.{not, position, nat_lt, ◌==◌}
use Rattle.std.specs.List.{list_all}
use Rattle.std.proofs.lemmas.Bool.{and_parts, not-true, ltb-true, eqb-true, eq-eqb, lt-ltb, le-ltb, le-leb, lt-leb, cases_Bool, and_right, and_left, cases_lt, cases_eq, ne_eqb}
use Rattle.std.proofs.lemmas.Bool.Decides.{nat_tests}
use Rattle.std.proofs.lemmas.List.Sums.{AllPass-from_list_all, list_all-from_AllPass}
use Rattle.std.proofs.lemmas.List.{get_or_default}
use Rattle.stn_model.specs.declared.plant.Plant.{Plant}
use Rattle.stn_model.specs.declared.start.Start.{Start}
use Rattle.stn_model.specs.Batches.{is_amid, is_next}
use Rattle.stn_model.specs.Violations.{start_at, no_start}
use Rattle.plan_sim.specs.Units.{IsNearest, NoneLater}
use Rattle.plan_violations.specs.Breaches.{comes_early, early_by, meets}
use Rattle.plan_violations.specs.Next.{early_until}
use Rattle.plan_violations.proofs.Places.{position_agree, position_nowhere}

-- one that is not strictly between is no earlier than the end
not_amid : (a b c : Start) → not (is_amid a b c) ≡ true → c.unit ≡ a.unit → a.period < c.period → b.period ≤ c.period
not_amid a b c h u p =
    let e : eqb c.unit a.unit ≡ true = eq-eqb c.unit a.unit u in
    let l : ltb a.period c.period ≡ true = lt-ltb a.period c.period p in
    let f : is_amid a b c ≡ false = not-true (is_amid a b c) h in
    grind (arith, nat_tests)

amid_is_false : (a b c : Start) → (c.unit ≡ a.unit → a.period < c.period → b.period ≤ c.period) → not (is_amid a b c) ≡ true
amid_is_false a b c h =
    elim (cases_eq c.unit a.unit) [
      | inl u ↦ elim (cases_lt a.period c.period) [
        | inl p ↦ (let q : b.period ≤ c.period = h u p in let f : ltb c.period b.period ≡ false = le-ltb c.period b.period q in ap not (and_right (eqb c.unit a.unit && ltb a.period c.period) (ltb c.period b.period) f))
        | inr p ↦ ap not (and_left (eqb c.unit a.unit && ltb a.period c.period) (ltb c.period b.period) (and_right (eqb c.unit a.unit) (ltb a.period c.period) (le-ltb a.period c.period p)))
      ]
      | inr u ↦ ap not (and_left (eqb c.unit a.unit && ltb a.period c.period) (ltb c.period b.period) (and_left (eqb c.unit a.unit) (ltb a.period c.period) (ne_eqb c.unit a.unit u)))
    ]

-- no start of the plan lies strictly between a and b exactly where b is no later than the nearest
none_amid : (plan : List Start) (a b : Start) (k : ℕ) → IsNearest plan (length plan) a k → list_all (λ c. not (is_amid a b c)) plan ≡ leb b.period (start_at plan k).period
none_amid plan a b k nearest =
    let q = (start_at plan k).period in
    elim (cases_lt q b.period) [
      | inr g ↦
          (let all : list_all (λ c. not (is_amid a b c)) plan ≡ true = list_all-from_AllPass (λ c. not (is_amid a b c)) plan
          (λ j d h. subst (λ (c : Start). not (is_amid a b c) ≡ true) (get_or_default plan j no_start d h)
          (amid_is_false a b (start_at plan j) (λ u p. let near : q ≤ (start_at plan j).period = nearest.nearest j h (u, p) in omega arith))) in
          all ∙ sym (le-leb b.period q g))
      | inl l ↦
          (let out : leb b.period q ≡ false = lt-leb b.period q l in
          elim (cases_Bool (list_all (λ c. not (is_amid a b c)) plan)) [
            | inl e ↦ (let pass : not (is_amid a b (start_at plan k)) ≡ true = AllPass-from_list_all (λ c. not (is_amid a b c)) plan e k no_start nearest.there in
                let low : b.period ≤ q = not_amid a b (start_at plan k) pass nearest.later.0 nearest.later.1 in absurd (omega arith))
            | inr e ↦ e ∙ sym out
          ])
    ]

-- what comes early until the nearest period is what comes early as a next one
early_same : (plant : Plant) (plan : List Start) (a b : Start) (k : ℕ) → IsNearest plan (length plan) a k → early_until plant a (start_at plan k).period b ≡ comes_early plant plan a b
unfolding comes_early is_next
early_same plant plan a b k nearest =
    ap (λ (x : Bool). a.unit == b.unit && nat_lt a.period b.period && x && nat_lt 0 (early_by plant a b) && not (meets plant a b)) (sym (none_amid plan a b k nearest))

pub early_of_nearest : (plant : Plant) (plan : List Start) (a : Start) (k : ℕ) → IsNearest plan (length plan) a k → position (early_until plant a (start_at plan k).period) plan ≡ position (comes_early plant plan a) plan
early_of_nearest plant plan a k nearest =
    position_agree (early_until plant a (start_at plan k).period) (comes_early plant plan a) plan no_start (λ j h. early_same plant plan a (start_at plan j) k nearest)

-- where no start is later on the unit, none is next
not_next : (plant : Plant) (plan : List Start) (a b : Start) → (b.unit ≡ a.unit → a.period < b.period → ⊥) → comes_early plant plan a b ≡ false
unfolding comes_early is_next
not_next plant plan a b none =
    let amid = list_all (λ c. not (is_amid a b c)) plan in
    let early = nat_lt 0 (early_by plant a b) in
    let apart = not (meets plant a b) in
    let here : (eqb a.unit b.unit && ltb a.period b.period) ≡ false = elim (cases_Bool (eqb a.unit b.unit && ltb a.period b.period)) [
      | inl e ↦ (let both = and_parts (eqb a.unit b.unit) (ltb a.period b.period) e in absurd (none (sym (eqb-true a.unit b.unit both.0)) (ltb-true a.period b.period both.1)))
      | inr e ↦ e
    ] in
    ap (λ (x : Bool). x && amid && early && apart) here

pub early_nowhere : (plant : Plant) (plan : List Start) (a : Start) → NoneLater plan (length plan) a → None ≡ position (comes_early plant plan a) plan
early_nowhere plant plan a none =
    sym (position_nowhere (comes_early plant plan a) plan no_start (λ k h. not_next plant plan a (start_at plan k) (λ unit later. none k h (unit, later))))
