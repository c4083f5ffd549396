-- The next start on a unit is the nearest later one.
use Rattle.std.proofs.Common.{◌≡◌, ℕ, ◌+◌, ◌<◌, ◌≤◌, List, length, get_or, arith, Bool, true, false, sym, ap, ◌∙◌, subst, sum_by, take, cond, zero, suc, add-one, inl, inr, ◌&&◌, ltb, eqb}
use Rattle.std.specs.Prelude.{IsTrue, not, ◌≢◌}
use Rattle.std.specs.List.{list_all}
use Rattle.std.proofs.lemmas.Bool.{and_parts, and_from, not-true, ltb-true, eqb-true, eq-eqb, lt-ltb, le-ltb, cases_Bool, and_right, and_left, cases_lt, cases_eq, cases_order, ne_eqb}
use Rattle.std.proofs.lemmas.Bool.Decides.{nat_tests}
use Rattle.std.proofs.lemmas.List.Sums.{sum_by_more, sum_by-le, AllPass-from_list_all, list_all-from_AllPass}
use Rattle.std.proofs.lemmas.List.{get_or_default}
use Rattle.stn_model.specs.declared.plant.Plant.{Plant}
use Rattle.stn_model.specs.declared.start.Start.{Start}
use Rattle.std.proofs.lemmas.List.Elements.{All-from_get_or}
use Rattle.std.proofs.Math.Seq.{take-length}
use Rattle.stn_model.specs.Plant.{end_of, gap_between, cost_between}
use Rattle.stn_model.specs.Profit.{changeover}
use Rattle.stn_model.specs.Batches.{is_amid, is_next}
use Rattle.stn_model.specs.Violations.{start_at, no_start}
use Rattle.plan_sim.specs.Units.{IsNearest, NoneLater, NoTwins, NoneTooSoon, FollowsTooSoon}

-- one that is not strictly between is no earlier than the end
not_amid : (a b c : Start) → not (is_amid a b c) ≡ true → c.unit ≡ a.unit → a.period < c.period → b.period ≤ c.period
not_amid a b c h u p =
    let e : eqb c.unit a.unit ≡ true = eq-eqb c.unit a.unit u in
    let l : ltb a.period c.period ≡ true = lt-ltb a.period c.period p in
    let f : is_amid a b c ≡ false = not-true (is_amid a b c) h in
    grind (arith, nat_tests)

amid_is_false : (a b c : Start) → (c.unit ≡ a.unit → a.period < c.period → b.period ≤ c.period) → not (is_amid a b c) ≡ true
amid_is_false a b c h =
    elim (cases_eq c.unit a.unit) [
      | inl u ↦ elim (cases_lt a.period c.period) [
        | inl p ↦ (let q : b.period ≤ c.period = h u p in let f : ltb c.period b.period ≡ false = le-ltb c.period b.period q in ap not (and_right (eqb c.unit a.unit && ltb a.period c.period) (ltb c.period b.period) f))
        | inr p ↦ ap not (and_left (eqb c.unit a.unit && ltb a.period c.period) (ltb c.period b.period) (and_right (eqb c.unit a.unit) (ltb a.period c.period) (le-ltb a.period c.period p)))
      ]
      | inr u ↦ ap not (and_left (eqb c.unit a.unit && ltb a.period c.period) (ltb c.period b.period) (and_left (eqb c.unit a.unit) (ltb a.period c.period) (ne_eqb c.unit a.unit u)))
    ]

one_place : (plan : List Start) (i j : ℕ) → NoTwins plan → i < length plan → j < length plan → (start_at plan i).unit ≡ (start_at plan j).unit → (start_at plan i).period ≡ (start_at plan j).period → i ≡ j
one_place plan i j twins hi hj unit period =
    elim (cases_order i j) [
      | inl e ↦ e
      | inr o ↦ elim o [ inl l ↦ absurd (twins i j l hj unit period) | inr g ↦ absurd (twins j i g hi (sym unit) (sym period)) ]
    ]

pub nearest_from_next : (plan : List Start) (a : Start) (place : ℕ) → place < length plan → IsTrue (is_next plan a (start_at plan place)) → IsNearest plan (length plan) a place
unfolding is_next
nearest_from_next plan a place there next =
    let b = start_at plan place in
    let both = and_parts (eqb a.unit b.unit && ltb a.period b.period) (list_all (λ c. not (is_amid a b c)) plan) next in
    let first = and_parts (eqb a.unit b.unit) (ltb a.period b.period) both.0 in
    let none = AllPass-from_list_all (λ c. not (is_amid a b c)) plan both.1 in
    record {
      there = there;
      later = (sym (eqb-true a.unit b.unit first.0), ltb-true a.period b.period first.1);
      nearest = λ other h later. not_amid a b (start_at plan other) (none other no_start h) later.0 later.1;
    }

pub next_from_nearest : (plan : List Start) (a : Start) (place : ℕ) → IsNearest plan (length plan) a place → IsTrue (is_next plan a (start_at plan place))
unfolding is_next
next_from_nearest plan a place nearest =
    let b = start_at plan place in
    let amid_false : (c : Start) → (c.unit ≡ a.unit → a.period < c.period → b.period ≤ c.period) → not (is_amid a b c) ≡ true = λ c h. amid_is_false a b c h in
    and_from (eqb a.unit b.unit && ltb a.period b.period) (list_all (λ c. not (is_amid a b c)) plan)
    (and_from (eqb a.unit b.unit) (ltb a.period b.period) (eq-eqb a.unit b.unit (sym nearest.later.0)) (lt-ltb a.period b.period nearest.later.1))
    (list_all-from_AllPass (λ c. not (is_amid a b c)) plan
    (λ k d h. subst (λ (c : Start). not (is_amid a b c) ≡ true) (get_or_default plan k no_start d h) (amid_false (start_at plan k) (λ u p. nearest.nearest k h (u, p)))))

-- two nearest ones are at one place, where no two starts of a unit share a period
pub nearest_unique : (plan : List Start) (a : Start) (i j : ℕ) → NoTwins plan → IsNearest plan (length plan) a i → IsNearest plan (length plan) a j → i ≡ j
nearest_unique plan a i j twins x y =
    let p : (start_at plan i).period ≤ (start_at plan j).period = x.nearest j y.there y.later in
    let q : (start_at plan j).period ≤ (start_at plan i).period = y.nearest i x.there x.later in
    let same : (start_at plan i).period ≡ (start_at plan j).period = omega arith in
    let unit : (start_at plan i).unit ≡ (start_at plan j).unit = x.later.0 ∙ sym y.later.0 in
    one_place plan i j twins x.there y.there unit same

pub none_soon_without_later : (plant : Plant) (plan : List Start) (a : Start) → NoneLater plan (length plan) a → NoneTooSoon plant plan a
none_soon_without_later plant plan a none place h soon = none place h (nearest_from_next plan a place h soon.next).later

pub none_soon_when_cleaned : (plant : Plant) (plan : List Start) (a : Start) (place : ℕ) → NoTwins plan → IsNearest plan (length plan) a place → end_of plant a + gap_between plant a.unit a.task (start_at plan place).task ≤ (start_at plan place).period → NoneTooSoon plant plan a
none_soon_when_cleaned plant plan a place twins nearest cleaned other h soon =
    let same : other ≡ place = nearest_unique plan a other place twins (nearest_from_next plan a other h soon.next) nearest in
    let early : (start_at plan place).period < end_of plant a + gap_between plant a.unit a.task (start_at plan place).task = subst (λ (k : ℕ). (start_at plan k).period < end_of plant a + gap_between plant a.unit a.task (start_at plan k).task) same soon.soon in
    omega arith

pub follows_when_soon : (plant : Plant) (plan : List Start) (a : Start) (place : ℕ) → NoTwins plan → IsNearest plan (length plan) a place → (start_at plan place).period < end_of plant a + gap_between plant a.unit a.task (start_at plan place).task → FollowsTooSoon plant plan a place
follows_when_soon plant plan a place twins nearest soon = record {
  there = nearest.there;
  soon = record { next = next_from_nearest plan a place nearest; soon = soon };
  only = λ other h late. nearest_unique plan a other place twins (nearest_from_next plan a other h late.next) nearest;
}

sum_by_single_taken : {X : Type 0} (f : X → ℕ) (xs : List X) (place : ℕ) (d : X) → place < length xs → ((k : ℕ) → k < length xs → k ≢ place → f (get_or xs k d) ≡ 0) → (n : ℕ) → n ≤ length xs → sum_by f (take n xs) ≡ cond (ltb place n) (f (get_or xs place d)) 0
sum_by_single_taken f xs place d there none zero h = sym (ap (λ (b : Bool). cond b (f (get_or xs place d)) 0) (le-ltb place 0 (omega arith)))
sum_by_single_taken f xs place d there none (suc n) h =
    let ih : sum_by f (take n xs) ≡ cond (ltb place n) (f (get_or xs place d)) 0 = sum_by_single_taken f xs place d there none n (omega arith) in
    let step : sum_by f (take (suc n) xs) ≡ sum_by f (take n xs) + f (get_or xs n d) = rw (← add-one) (sum_by_more f xs n d (omega arith)) in
    elim (cases_order n place) [
      | inl e ↦ (let here : f (get_or xs n d) ≡ f (get_or xs place d) = ap (λ (k : ℕ). f (get_or xs k d)) e in grind (arith, nat_tests))
      | inr o ↦ (let nothing : f (get_or xs n d) ≡ 0 = none n (omega arith) (λ e. elim o [ inl l ↦ omega arith | inr g ↦ omega arith ]) in
          elim o [ inl l ↦ grind (arith, nat_tests) | inr g ↦ grind (arith, nat_tests) ])
    ]

-- a sum whose only summand is at one place
pub sum_by_single : {X : Type 0} (f : X → ℕ) (xs : List X) (place : ℕ) (d : X) → place < length xs → ((k : ℕ) → k < length xs → k ≢ place → f (get_or xs k d) ≡ 0) → sum_by f xs ≡ f (get_or xs place d)
sum_by_single f xs place d there none =
    let taken : (n : ℕ) → n ≤ length xs → sum_by f (take n xs) ≡ cond (ltb place n) (f (get_or xs place d)) 0 = sum_by_single_taken f xs place d there none in
    let all : sum_by f (take (length xs) xs) ≡ cond (ltb place (length xs)) (f (get_or xs place d)) 0 = taken (length xs) (omega arith) in
    let inside : ltb place (length xs) ≡ true = lt-ltb place (length xs) there in
    ap (sum_by f) (sym (take-length xs)) ∙ all ∙ ap (λ (b : Bool). cond b (f (get_or xs place d)) 0) inside

-- a sum without summands
pub sum_by_none : {X : Type 0} (f : X → ℕ) (xs : List X) (d : X) → ((k : ℕ) → k < length xs → f (get_or xs k d) ≡ 0) → sum_by f xs ≡ 0
sum_by_none f xs d none = omega (arith, sum_by-le f 0 xs (All-from_get_or (λ x. f x ≤ 0) xs d (λ k h. omega (arith, none k h))))

pub changeover_nearest : (plant : Plant) (plan : List Start) (a : Start) (place : ℕ) → NoTwins plan → IsNearest plan (length plan) a place → sum_by (changeover plant plan a) plan ≡ cost_between plant a.unit a.task (start_at plan place).task
unfolding changeover
changeover_nearest plant plan a place twins nearest =
    let at : changeover plant plan a (start_at plan place) ≡ cost_between plant a.unit a.task (start_at plan place).task = ap (λ (b : Bool). cond b (cost_between plant a.unit a.task (start_at plan place).task) 0) (next_from_nearest plan a place nearest) in
    sum_by_single (changeover plant plan a) plan place no_start nearest.there
    (λ k h other. elim (cases_Bool (is_next plan a (start_at plan k))) [
      | inl e ↦ absurd (other (nearest_unique plan a k place twins (nearest_from_next plan a k h e) nearest))
      | inr e ↦ ap (λ (b : Bool). cond b (cost_between plant a.unit a.task (start_at plan k).task) 0) e
    ])
    ∙ at

pub changeover_none : (plant : Plant) (plan : List Start) (a : Start) → NoneLater plan (length plan) a → sum_by (changeover plant plan a) plan ≡ 0
unfolding changeover
changeover_none plant plan a none =
    sum_by_none (changeover plant plan a) plan no_start
    (λ k h. elim (cases_Bool (is_next plan a (start_at plan k))) [
      | inl e ↦ absurd (none k h (nearest_from_next plan a k h e).later)
      | inr e ↦ ap (λ (b : Bool). cond b (cost_between plant a.unit a.task (start_at plan k).task) 0) e
    ])

pub not_below : (m n : ℕ) → ¬ (m ≤ n) → n < m
not_below m n h = elim (cases_lt n m) [ inl l ↦ l | inr g ↦ absurd (h g) ]
