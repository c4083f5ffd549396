-- The start that comes last on a unit before the period, and the one that comes first on it in a plan.
use Rattle.std.proofs.Common.{◌≡◌, ℕ, zero, suc, ◌+◌, ◌-◌, ◌<◌, ◌≤◌, true, false, eqb, ltb, not, List, length, get_or, refl, sym, ap, ◌∙◌, inl, inr, arith, Some, None}
use Rattle.std.specs.Prelude.{All, AllPairs, ◌==◌}
use Rattle.std.proofs.lemmas.Bool.{cases_Bool, cases_order, and_parts, and_from, eq-eqb, eqb-true, eqb-false, ltb-true, ltb-false, not-true, not-false, and_cases, not_from_false, ne_eqb, not_from_true}
use Rattle.std.proofs.lemmas.Option.{none-some}
use Rattle.std.proofs.lemmas.List.{get_or_default}
use Rattle.std.proofs.lemmas.List.Folds.{list_all_at}
use Rattle.std.proofs.lemmas.List.Sums.{AllPass-from_list_all, list_all-from_AllPass}
use Rattle.stn_model.specs.declared.plant.Plant.{Plant}
use Rattle.stn_model.specs.declared.start.Start.{Start}
use Rattle.stn_model.specs.Plant.{end_of}
use Rattle.stn_model.specs.Fits.{Fits}
use Rattle.stn_model.specs.Batches.{Apart, is_earlier, is_first}
use Rattle.stn_model.specs.Sound.{Sound}
use Rattle.stn_model.specs.Violations.{start_at, no_start}
use Rattle.stn_model.proofs.Fitting.{ends_later}
use Rattle.rolled_plant.specs.Kept.{IsMendable}
use Rattle.rolled_plant.specs.Begin.{is_last, is_latest, latest}
use Rattle.rolled_plant.proofs.Joined.{one_fails, found_only, found_at}
use Rattle.rolled_plant.proofs.Follows.{is_free}

earlier_parts : (a b : Start) → is_earlier a b ≡ true → (a.unit ≡ b.unit) × (a.period < b.period)
earlier_parts a b e =
    let both = and_parts (eqb a.unit b.unit) (ltb a.period b.period) e in
    (eqb-true a.unit b.unit both.0, ltb-true a.period b.period both.1)

-- the start that comes last on the unit of this one
pub record LastOn (before : List Start) (place : ℕ) : Type 0 where
  pub last_place : ℕ
  pub there : last_place < length before
  pub unit : (start_at before last_place).unit ≡ (start_at before place).unit
  pub later : (start_at before place).period ≤ (start_at before last_place).period
  pub last : is_last before (start_at before last_place) ≡ true

later_one : (before : List Start) (a : Start) → is_last before a ≡ false → (k : ℕ) × (k < length before) × (a.unit ≡ (start_at before k).unit) × (a.period < (start_at before k).period)
unfolding is_last
later_one before a f =
    let fails = one_fails (λ b. not (is_earlier a b)) before no_start f in
    let is = earlier_parts a (start_at before fails.0) (not-false (is_earlier a (start_at before fails.0)) fails.2) in
    (fails.0, fails.1, is.0, is.1)

last_within : (before : List Start) (period : ℕ) → All (λ start. start.period < period) before → (n place : ℕ) → place < length before → period ≤ n + (start_at before place).period → LastOn before place
last_within before period early zero place there bound = absurd (let is = early place no_start there in omega arith)
last_within before period early (suc n) place there bound =
    elim (cases_Bool (is_last before (start_at before place))) [
      | inl t ↦ record { last_place = place; there = there; unit = refl; later = omega arith; last = t }
      | inr f ↦
          let next = later_one before (start_at before place) f in
          let order = next.3 in
          let more = last_within before period early n next.0 next.1 (omega arith) in
          record { last_place = more.last_place; there = more.there; unit = more.unit ∙ sym next.2; later = omega (arith, more.later, order); last = more.last }
    ]

-- some start comes last on the unit of a start before the period
pub last_on : (before : List Start) (period place : ℕ) → All (λ start. start.period < period) before → place < length before → LastOn before place
last_on before period place early there = last_within before period early period place there (omega arith)

-- the start that comes first on the unit of this one
pub record FirstOn (plan : List Start) (place : ℕ) : Type 0 where
  pub first_place : ℕ
  pub there : first_place < length plan
  pub unit : (start_at plan first_place).unit ≡ (start_at plan place).unit
  pub earlier : (start_at plan first_place).period ≤ (start_at plan place).period
  pub first : is_first plan (start_at plan first_place) ≡ true

earlier_one : (plan : List Start) (b : Start) → is_first plan b ≡ false → (k : ℕ) × (k < length plan) × ((start_at plan k).unit ≡ b.unit) × ((start_at plan k).period < b.period)
unfolding is_first
earlier_one plan b f =
    let fails = one_fails (λ a. not (is_earlier a b)) plan no_start f in
    let is = earlier_parts (start_at plan fails.0) b (not-false (is_earlier (start_at plan fails.0) b) fails.2) in
    (fails.0, fails.1, is.0, is.1)

first_within : (plan : List Start) (n place : ℕ) → place < length plan → (start_at plan place).period < n → FirstOn plan place
first_within plan zero place there bound = absurd (omega arith)
first_within plan (suc n) place there bound =
    elim (cases_Bool (is_first plan (start_at plan place))) [
      | inl t ↦ record { first_place = place; there = there; unit = refl; earlier = omega arith; first = t }
      | inr f ↦
          let next = earlier_one plan (start_at plan place) f in
          let order = next.3 in
          let more = first_within plan n next.0 next.1 (omega arith) in
          record { first_place = more.first_place; there = more.there; unit = more.unit ∙ next.2; earlier = omega (arith, more.earlier, order); first = more.first }
    ]

-- some start comes first on the unit of a start
pub first_on : (plan : List Start) (place : ℕ) → place < length plan → FirstOn plan place
first_on plan place there = first_within plan (suc (start_at plan place).period) place there (omega arith)

-- ---- starts that fit and keep apart

-- a start that comes last on its unit is before no other there
not_later : (before : List Start) (a : Start) → is_last before a ≡ true → All (λ b. a.unit ≡ b.unit → b.period ≤ a.period) before
unfolding is_last
not_later before a last k d l same =
    let b = get_or before k d in
    let passes = not-true (is_earlier a b) (AllPass-from_list_all (λ c. not (is_earlier a c)) before last k d l) in
    elim (and_cases (eqb a.unit b.unit) (ltb a.period b.period) passes) [
      | inl f ↦ absurd (eqb-false a.unit b.unit f same)
      | inr f ↦ ltb-false a.period b.period f
    ]

-- no two starts that fit and keep apart begin together on a unit
distinct : (plant : Plant) (before : List Start) → Sound plant → All (Fits plant) before → AllPairs (Apart plant) before → AllPairs (λ a b. a.unit ≡ b.unit → a.period ≡ b.period → ⊥) before
distinct plant before sound fits apart i j d less within same together =
    let a = get_or before i d in
    let b = get_or before j d in
    let ends_a = ends_later plant a sound (fits i d (omega arith)) in
    let ends_b = ends_later plant b sound (fits j d within) in
    elim (apart i j d less within same) [
      | inl l ↦ omega (arith, l, together, ends_a)
      | inr l ↦ omega (arith, l, together, ends_b)
    ]

-- no two of them come last on one unit
pub one_latest : (plant : Plant) (before : List Start) (period unit : ℕ) → Sound plant → IsMendable plant before period → AllPairs (λ a b. is_latest before unit a ≡ true → is_latest before unit b ≡ true → ⊥) before
one_latest plant before period unit sound on i j d less within first second =
    let a = get_or before i d in
    let b = get_or before j d in
    let one = and_parts (eqb a.unit unit) (is_last before a) first in
    let two = and_parts (eqb b.unit unit) (is_last before b) second in
    let same : a.unit ≡ b.unit = eqb-true a.unit unit one.0 ∙ sym (eqb-true b.unit unit two.0) in
    let up : b.period ≤ a.period = not_later before a one.1 j d within same in
    let down : a.period ≤ b.period = not_later before b two.1 i d (omega arith) (sym same) in
    distinct plant before sound on.fits on.apart i j d less within same (omega arith)

-- it is what is found
pub latest_is : (plant : Plant) (before : List Start) (period unit : ℕ) → Sound plant → IsMendable plant before period → All (λ a. is_latest before unit a ≡ true → latest before unit ≡ Some a) before
unfolding latest
latest_is plant before period unit sound on = found_only (is_latest before unit) before (one_latest plant before period unit sound on)

-- of two places one batch ends by the start of the other, or they are one place
ends_by : (plant : Plant) (before : List Start) (period i j : ℕ) → Sound plant → IsMendable plant before period → i < length before → j < length before → (start_at before i).unit ≡ (start_at before j).unit
    → (start_at before i).period ≤ (start_at before j).period → end_of plant (start_at before i) ≤ end_of plant (start_at before j)
ends_by plant before period i j sound on there within same order =
    let ends_i = ends_later plant (start_at before i) sound (on.fits i no_start there) in
    let ends_j = ends_later plant (start_at before j) sound (on.fits j no_start within) in
    elim (cases_order i j) [
      | inl e ↦ (let one : start_at before i ≡ start_at before j = ap (start_at before) e in let ends : end_of plant (start_at before i) ≡ end_of plant (start_at before j) = ap (end_of plant) one in omega arith)
      | inr other ↦ elim other [
        | inl l ↦ elim (on.apart i j no_start l within same) [ inl h ↦ omega (arith, h, ends_j) | inr h ↦ omega (arith, h, ends_i, ends_j, order) ]
        | inr l ↦ elim (on.apart j i no_start l there (sym same)) [ inl h ↦ omega (arith, h, ends_i, ends_j, order) | inr h ↦ omega (arith, h, ends_j) ]
      ]
    ]

-- the latest start on the unit of one before, which ends no earlier
pub record LatestOn (plant : Plant) (before : List Start) (place : ℕ) : Type 0 where
  pub latest_place : ℕ
  pub there : latest_place < length before
  pub found : latest before (start_at before place).unit ≡ Some (start_at before latest_place)
  pub unit : (start_at before latest_place).unit ≡ (start_at before place).unit
  pub ends : end_of plant (start_at before place) ≤ end_of plant (start_at before latest_place)

pub latest_on : (plant : Plant) (before : List Start) (period place : ℕ) → Sound plant → IsMendable plant before period → place < length before → LatestOn plant before place
latest_on plant before period place sound on there =
    let last = last_on before period place on.earlier there in
    let unit = (start_at before place).unit in
    let is : is_latest before unit (start_at before last.last_place) ≡ true = and_from (eqb (start_at before last.last_place).unit unit) (is_last before (start_at before last.last_place)) (eq-eqb (start_at before last.last_place).unit unit last.unit) last.last in
    record {
      latest_place = last.last_place;
      there = last.there;
      found = latest_is plant before period unit sound on last.last_place no_start last.there is;
      unit = last.unit;
      ends = ends_by plant before period place last.last_place sound on there last.there (sym last.unit) last.later;
    }

-- where no start is the latest on a unit, none is on it
pub free_where_none : (plant : Plant) (before : List Start) (period unit : ℕ) → Sound plant → IsMendable plant before period → latest before unit ≡ None → is_free before unit ≡ true
free_where_none plant before period unit sound on none =
    list_all-from_AllPass (λ (a : Start). not (a.unit == unit)) before
    (λ k d l. not_from_false ((get_or before k d).unit == unit) (ne_eqb (get_or before k d).unit unit (λ e. not_here k l (sym (ap (λ (s : Start). s.unit) (get_or_default before k d no_start l)) ∙ e))))
  where
    not_here : (k : ℕ) → k < length before → (start_at before k).unit ≡ unit → ⊥
    not_here k l e =
        let on_it = latest_on plant before period k sound on l in
        none-some (start_at before on_it.latest_place) (sym none ∙ ap (latest before) (sym e) ∙ on_it.found)

-- where one is, the unit is not free
pub held_where_some : (before : List Start) (unit : ℕ) (a : Start) → latest before unit ≡ Some a → is_free before unit ≡ false
unfolding latest
held_where_some before unit a found =
    let is = found_at (is_latest before unit) before a found in
    let on_it = and_parts (eqb a.unit unit) (is_last before a) is.3 in
    let here : (get_or before is.0 a).unit ≡ unit = ap (λ (s : Start). s.unit) is.2 ∙ eqb-true a.unit unit on_it.0 in
    list_all_at (λ (b : Start). not (b.unit == unit)) before is.0 a is.1 (not_from_true ((get_or before is.0 a).unit == unit) (eq-eqb (get_or before is.0 a).unit unit here))
