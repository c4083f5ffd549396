-- How many quanta start in a slot, of the starts before a period.
use Rattle.std.proofs.Common.{◌≡◌, ℕ, ◌<◌, ◌≤◌, true, List, get_or, filter, sym, ◌∙◌, inl, inr, arith}
use Rattle.std.specs.Prelude.{IsPermutation, if◌then◌else◌, nat_lt}
use Rattle.std.specs.List.{All}
use Rattle.std.proofs.lemmas.Bool.{eqb-true, and_parts, cases_Bool, cases_lt, lt-ltb, ltb-true, cond-true, cond-false}
use Rattle.std.proofs.lemmas.List.Elements.{filter_passes, All-filter}
use Rattle.std.proofs.lemmas.List.Kept.{AllPairs-filter}
use Rattle.std.proofs.lemmas.List.Sorted.{IsPermutation-sym, IsPermutation-trans, sum_by-IsPermutation}
use Rattle.stn_model.specs.declared.plant.Plant.{Plant}
use Rattle.stn_model.specs.declared.start.Start.{Start}
use Rattle.stn_model.specs.Fits.{Fits}
use Rattle.stn_model.specs.Sound.{Sound}
use Rattle.time_grid.specs.Slots.{slots}
use Rattle.time_grid.specs.PlanPoint.{ShareSlot, is_in, quanta_of, quanta_in, HasPoint, plan_point, point_starts}
use Rattle.time_grid.proofs.SlotList.{sum_by-filter, sum_by-same}
use Rattle.time_grid.proofs.OnePlan.{map-agree, quanta_in-none, starts-permutation}
use Rattle.frozen_plan.specs.Frozen.{is_before, Agrees}

-- a start in a slot is in the slot's period
period-of : (plant : Plant) (slot : ℕ × ℕ) (start : Start) → is_in plant slot start ≡ true → start.period ≡ slot.1
period-of plant slot start is = eqb-true start.period slot.1 (and_parts _ _ is).0

-- the starts before a period have all the quanta that start in a slot before it
pub quanta-before : (plant : Plant) (period : ℕ) (plan : List Start) (slot : ℕ × ℕ) → slot.1 < period → quanta_in plant (filter (is_before period) plan) slot ≡ quanta_in plant plan slot
unfolding quanta_in
quanta-before plant period plan slot early =
    sum_by-filter (is_before period) (quanta_of plant slot) plan
    ∙ sum_by-same (λ start. if is_before period start then quanta_of plant slot start else 0) (quanta_of plant slot) each plan
  where
    each : (start : Start) → (if nat_lt start.period period then quanta_of plant slot start else 0) ≡ quanta_of plant slot start
    each start =
        elim (cases_Bool (is_in plant slot start)) [
          | inl t ↦
              let at = period-of plant slot start t in
              cond-true {A = ℕ} (nat_lt start.period period) (quanta_of plant slot start) 0 (lt-ltb start.period period (omega (arith, at)))
          | inr f ↦
              let none : quanta_of plant slot start ≡ 0 = cond-false {A = ℕ} (is_in plant slot start) start.quanta 0 f in
              elim (cases_Bool (nat_lt start.period period)) [
                | inl t ↦ cond-true {A = ℕ} (nat_lt start.period period) (quanta_of plant slot start) 0 t
                | inr g ↦ cond-false {A = ℕ} (nat_lt start.period period) (quanta_of plant slot start) 0 g ∙ sym none
              ]
        ]

-- starts before a period have no quanta in a slot from it on
pub quanta-early : (plant : Plant) (period : ℕ) (plan : List Start) (slot : ℕ × ℕ) → All (λ start. start.period < period) plan → period ≤ slot.1 → quanta_in plant plan slot ≡ 0
quanta-early plant period plan slot early late =
    quanta_in-none plant plan slot
    (λ k d l. elim (cases_Bool (is_in plant slot (get_or plan k d))) [
      | inl t ↦ absurd (let at = period-of plant slot (get_or plan k d) t in let before = early k d l in omega (arith, at, before))
      | inr f ↦ f
    ])

-- the starts before a period are in periods before it
pub before-early : (period : ℕ) (plan : List Start) → All (λ start. start.period < period) (filter (is_before period) plan)
before-early period plan k d l = ltb-true (get_or (filter (is_before period) plan) k d).period period (filter_passes (is_before period) plan k d l)

-- the starts before a period have a point where all have
pub before-has : (plant : Plant) (period : ℕ) (plan : List Start) → HasPoint plant plan → HasPoint plant (filter (is_before period) plan)
before-has plant period plan has = record {
  fits = All-filter (is_before period) (Fits plant) plan has.fits;
  apart = AllPairs-filter (λ a b. ¬ ShareSlot a b) (is_before period) plan has.apart;
}

-- a plan whose slots before a period have the kept quanta agrees with the kept starts
pub agrees-from : (plant : Plant) (period : ℕ) (kept plan : List Start) → Sound plant → All (λ start. start.period < period) kept → HasPoint plant kept → HasPoint plant plan →
    All (λ slot. slot.1 < period → quanta_in plant plan slot ≡ quanta_in plant kept slot) (slots plant) → Agrees period kept plan
unfolding plan_point
agrees-from plant period kept plan sound early has own same =
    let first = filter (is_before period) plan in
    let points : plan_point plant kept ≡ plan_point plant first = map-agree (quanta_in plant kept) (quanta_in plant first) (slots plant)
    (λ j d l. elim (cases_lt (get_or (slots plant) j d).1 period) [
      | inl before ↦ quanta-before plant period plan (get_or (slots plant) j d) before ∙ same j d l before
      | inr late ↦ quanta-early plant period first (get_or (slots plant) j d) (before-early period plan) late ∙ sym (quanta-early plant period kept (get_or (slots plant) j d) early late)
    ]) in
    let one : IsPermutation first (point_starts plant (slots plant) (plan_point plant first)) = starts-permutation plant first sound (before-has plant period plan own) in
    let two : IsPermutation kept (point_starts plant (slots plant) (plan_point plant kept)) = starts-permutation plant kept sound has in
    IsPermutation-trans first (point_starts plant (slots plant) (plan_point plant kept)) kept
    (rw points one)
    (IsPermutation-sym kept (point_starts plant (slots plant) (plan_point plant kept)) two)

-- where a plan agrees with the kept starts, its slots before the period have the kept quanta
pub agreed-quanta : (plant : Plant) (period : ℕ) (kept plan : List Start) (slot : ℕ × ℕ) → Agrees period kept plan → slot.1 < period → quanta_in plant plan slot ≡ quanta_in plant kept slot
unfolding quanta_in
agreed-quanta plant period kept plan slot agrees before =
    sym (quanta-before plant period plan slot before) ∙ sym (sum_by-IsPermutation (quanta_of plant slot) (filter (is_before period) plan) kept agrees)
