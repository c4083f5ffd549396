-- Which starts follow each other on a unit, where those of a plan stand behind the starts before.
use Rattle.std.proofs.Common.{◌≡◌, ℕ, suc, ◌+◌, ◌-◌, ◌<◌, ◌≤◌, Bool, true, false, eqb, ltb, not, List, get_or, sym, ap, ap₂, ◌∙◌, inl, inr, arith}
use Rattle.std.specs.Prelude.{All, ◌&&◌, ◌==◌}
use Rattle.std.specs.List.{list_all}
use Rattle.std.proofs.lemmas.Bool.{cases_eq, and_left, and_right, not_from_false, le-leb, lt-leb, eq-eqb, ne_eqb}
use Rattle.stn_model.specs.declared.start.Start.{Start}
use Rattle.stn_model.specs.Batches.{is_amid, is_earlier, is_first, is_next}
use Rattle.rolled_plant.specs.Kept.{later, joined}
use Rattle.rolled_plant.specs.Begin.{is_last}
use Rattle.rolled_plant.proofs.Basics.{ltb_shift}
use Rattle.rolled_plant.proofs.Joined.{list_all-joined, list_all-first, list_all-second, and-true}

-- no start is on the unit
abbrev pub is_free : List Start → ℕ → Bool
is_free before unit = list_all (λ (a : Start). not (a.unit == unit)) before

eqb_turned : (a b : ℕ) → eqb a b ≡ eqb b a
eqb_turned a b =
    elim (cases_eq a b) [
      | inl e ↦ eq-eqb a b e ∙ sym (eq-eqb b a (sym e))
      | inr other ↦ ne_eqb a b other ∙ sym (ne_eqb b a (λ e. other (sym e)))
    ]

-- a later start is before none that is before the period
not_before : (period : ℕ) (x b : Start) → b.period ≤ period → ltb (period + x.period) b.period ≡ false
not_before period x b early = lt-leb (suc (period + x.period)) b.period (omega arith)

-- and each that is before the period is before it
is_before_later : (period : ℕ) (a y : Start) → a.period < period → ltb a.period (period + y.period) ≡ true
is_before_later period a y early = le-leb (suc a.period) (period + y.period) (omega arith)

-- what follows a start before the period there is one of the others before
pub next_early : (before : List Start) (period : ℕ) (plan : List Start) (a b : Start) → b.period ≤ period → is_next (joined before period plan) a b ≡ is_next before a b
unfolding is_next
next_early before period plan a b early =
    ap (λ (c : Bool). (a.unit == b.unit && ltb a.period b.period) && c)
    (list_all-first (λ c. not (is_amid a b c)) (later period) before plan
    (λ x. not_from_false (is_amid a b (later period x))
    (and_right (x.unit == a.unit && ltb a.period (period + x.period)) (ltb (period + x.period) b.period) (not_before period x b early))))

-- a start before the period follows no later one
pub next_back : (before : List Start) (period : ℕ) (plan : List Start) (x b : Start) → b.period ≤ period → is_next (joined before period plan) (later period x) b ≡ false
unfolding is_next
next_back before period plan x b early =
    and_left (x.unit == b.unit && ltb (period + x.period) b.period) (list_all (λ c. not (is_amid (later period x) b c)) (joined before period plan))
    (and_right (x.unit == b.unit) (ltb (period + x.period) b.period) (not_before period x b early))

amid_later : (period : ℕ) (x y z : Start) → is_amid (later period x) (later period y) (later period z) ≡ is_amid x y z
amid_later period x y z =
    ap₂ (λ (b c : Bool). z.unit == x.unit && b && c) (ltb_shift period x.period z.period) (ltb_shift period z.period y.period)

amid_early : (period : ℕ) (x y c : Start) → c.period < period → is_amid (later period x) (later period y) c ≡ false
amid_early period x y c early =
    and_left (c.unit == x.unit && ltb (period + x.period) c.period) (ltb c.period (period + y.period))
    (and_right (c.unit == x.unit) (ltb (period + x.period) c.period) (not_before period x c (omega arith)))

-- later starts follow each other as on the rolled plant
pub next_later : (before : List Start) (period : ℕ) (plan : List Start) (x y : Start) → All (λ start. start.period < period) before → is_next (joined before period plan) (later period x) (later period y) ≡ is_next plan x y
unfolding is_next
next_later before period plan x y early =
    ap₂ (λ (b c : Bool). (x.unit == y.unit && b) && c) (ltb_shift period x.period y.period)
    (list_all-second (λ c. not (is_amid (later period x) (later period y) c)) (λ z. not (is_amid x y z)) (later period) before plan
    (λ k d l. not_from_false (is_amid (later period x) (later period y) (get_or before k d)) (amid_early period x y (get_or before k d) (early k d l)))
    (λ z. ap not (amid_later period x y z)))

-- a later start is no earlier one
earlier_late : (period : ℕ) (x b : Start) → b.period ≤ period → is_earlier (later period x) b ≡ false
earlier_late period x b early = and_right (x.unit == b.unit) (ltb (period + x.period) b.period) (not_before period x b early)

-- a start before the period comes first on its unit where it does among the others before
pub first_early : (before : List Start) (period : ℕ) (plan : List Start) (b : Start) → b.period ≤ period → is_first (joined before period plan) b ≡ is_first before b
unfolding is_first
first_early before period plan b early =
    list_all-first (λ a. not (is_earlier a b)) (later period) before plan (λ x. not_from_false (is_earlier (later period x) b) (earlier_late period x b early))

earlier_free : (period : ℕ) (a y : Start) → a.period < period → is_earlier a (later period y) ≡ (a.unit == y.unit)
earlier_free period a y early = ap (λ (b : Bool). a.unit == y.unit && b) (is_before_later period a y early) ∙ and-true (a.unit == y.unit)

-- a later start comes first on its unit where no start before is on it and it does on the rolled plant
pub first_later : (before : List Start) (period : ℕ) (plan : List Start) (y : Start) → All (λ start. start.period < period) before → is_first (joined before period plan) (later period y) ≡ (is_free before y.unit && is_first plan y)
unfolding is_first
first_later before period plan y early =
    list_all-joined (λ a. not (is_earlier a (later period y))) (λ (a : Start). not (a.unit == y.unit)) (λ x. not (is_earlier x y)) (later period) before plan
    (λ k d l. ap not (earlier_free period (get_or before k d) y (early k d l)))
    (λ x. ap (λ (b : Bool). not (x.unit == y.unit && b)) (ltb_shift period x.period y.period))

amid_before : (period : ℕ) (a y c : Start) → c.period < period → is_amid a (later period y) c ≡ is_earlier a c
amid_before period a y c early =
    ap (λ (b : Bool). c.unit == a.unit && ltb a.period c.period && b) (is_before_later period c y early)
    ∙ and-true (c.unit == a.unit && ltb a.period c.period)
    ∙ ap (λ (b : Bool). b && ltb a.period c.period) (eqb_turned c.unit a.unit)

amid_after : (period : ℕ) (a y z : Start) → a.period < period → a.unit ≡ y.unit → is_amid a (later period y) (later period z) ≡ is_earlier z y
amid_after period a y z early same =
    ap₂ (λ (b c : Bool). z.unit == a.unit && b && c) (is_before_later period a z early) (ltb_shift period z.period y.period)
    ∙ ap (λ (b : Bool). b && ltb z.period y.period) (and-true (z.unit == a.unit))
    ∙ ap (λ (n : ℕ). z.unit == n && ltb z.period y.period) same

-- a later start follows one before where the one comes last on the unit, and the other first
pub next_across : (before : List Start) (period : ℕ) (plan : List Start) (a y : Start) → All (λ start. start.period < period) before → a.period < period
    → is_next (joined before period plan) a (later period y) ≡ (a.unit == y.unit && (is_last before a && is_first plan y))
unfolding is_next is_last is_first
next_across before period plan a y early own =
    elim (cases_eq a.unit y.unit) [
      | inl same ↦
          ap (λ (b : Bool). (a.unit == y.unit && b) && list_all (λ c. not (is_amid a (later period y) c)) (joined before period plan)) (is_before_later period a y own)
          ∙ ap (λ (b : Bool). b && list_all (λ c. not (is_amid a (later period y) c)) (joined before period plan)) (and-true (a.unit == y.unit))
          ∙ ap (λ (b : Bool). a.unit == y.unit && b)
          (list_all-joined (λ c. not (is_amid a (later period y) c)) (λ c. not (is_earlier a c)) (λ z. not (is_earlier z y)) (later period) before plan
          (λ k d l. ap not (amid_before period a y (get_or before k d) (early k d l)))
          (λ z. ap not (amid_after period a y z own same)))
      | inr other ↦
          and_left (a.unit == y.unit && ltb a.period (period + y.period)) (list_all (λ c. not (is_amid a (later period y) c)) (joined before period plan))
          (and_left (a.unit == y.unit) (ltb a.period (period + y.period)) (ne_eqb a.unit y.unit other))
          ∙ sym (and_left (a.unit == y.unit) (list_all (λ b. not (is_earlier a b)) before && list_all (λ x. not (is_earlier x y)) plan) (ne_eqb a.unit y.unit other))
    ]
