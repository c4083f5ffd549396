-- The first rows are kept at a plan's point exactly where first batches wait for those that held their units before.
use Rattle.std.proofs.Common.{◌≡◌, ℕ, ◌+◌, ◌<◌, ◌≤◌, ◌==◌, ◌&&◌, ◌↔◌, not, nat_lt, Bool, true, false, cond, Option, Some, None, is_some, List, [], ◌∷◌, length, get_or, map, filter, sum_by, count_by, pos, negsuc, ◌+ℤ◌, ◌-ℤ◌, ◌*ℤ◌, sym, refl, ap, ap₂, ◌∙◌, arith, inl, inr}
use Rattle.std.specs.List.{All, Contains, range_with_len}
use Rattle.std.proofs.lemmas.Int.{ints}
use Rattle.std.proofs.lemmas.List.Elements.{All-map, All-filter, All-contains, filter_passes}
use Rattle.std.proofs.lemmas.List.Sums.{get_or-le-sum_by, AllPass-from_list_all, list_all-from_AllPass}
use Rattle.std.proofs.lemmas.Bool.{eqb-true, eq-eqb, le-ltb, ltb-true, lt-ltb, and_parts, and_from, not-true, not_from_false, cases_lt, cases_Bool, cond-true, cond-false, true≢false, false_from_ne_true}
use Rattle.stn_model.specs.declared.plant.Plant.{Plant}
use Rattle.stn_model.specs.declared.start.Start.{Start}
use Rattle.stn_model.specs.Plant.{no_run, ready_after, ready_at, run_at, unit_at}
use Rattle.stn_model.specs.Batches.{Begun, is_earlier, is_first}
use Rattle.stn_model.specs.Sound.{Sound, SoundRun}
use Rattle.time_grid.specs.Slots.{slots, IsSlotOf}
use Rattle.time_grid.specs.PlanPoint.{HasPoint, plan_point, start_in, is_in}
use Rattle.time_grid.proofs.Lists.{All-flat_map, Contains-flat_map, Contains-map, Contains-filter, Contains-range}
use Rattle.time_grid.proofs.SlotList.{slots-are, Contains-slots}
use Rattle.time_grid.proofs.OnePlan.{sum_by-zero}
use Rattle.time_grid.proofs.PointSums.{total-minus}
use Rattle.row_kit.specs.declared.row.Row.{Row}
use Rattle.row_kit.specs.Row.{entries_sum, IsKept}
use Rattle.unit_rows.specs.Busy.{is_on}
use Rattle.unit_rows.specs.Firsts.{lies_before, first_part, first_row, run_ready, is_too_early, is_early_on, unit_first_rows, first_rows}
use Rattle.unit_rows.proofs.Counts.{one_counted, passes_one}
use Rattle.unit_rows.proofs.PointRows.{entries_sum-plan_point, InSlot, in_slot, is_slot-in, part_is, slotted, one_in_slot}

-- a start on the unit of a slot, in a lesser period
abbrev is_before : Plant → ℕ × ℕ → Start → Bool
is_before plant b start = start.unit == (run_at plant b.0).unit && nat_lt start.period b.1

-- 1 for such a start, which is not in the slot
abbrev before : Plant → ℕ × ℕ → Start → ℕ
before plant b start = cond (is_in plant b start) 0 (cond (is_before plant b start) 1 0)

-- a slot counts what its starts do
first_part-counts : (plant : Plant) (b c : ℕ × ℕ) (value : ℕ) → Sound plant → IsSlotOf plant b → IsSlotOf plant c →
    (first_part plant b c).0 +ℤ ((first_part plant b c).1 *ℤ pos value)
    ≡ pos (cond (is_in plant b (start_in plant c value)) 1 0) -ℤ pos (before plant b (start_in plant c value))
first_part-counts plant b c value sound is is2 =
    ap (λ t. cond t (pos 1) (cond (lies_before plant b c) (negsuc 0) (pos 0)) +ℤ (pos 0 *ℤ pos value)) (is_slot-in plant b c value sound is is2)
    ∙ part_is (is_in plant b (start_in plant c value)) (lies_before plant b c) value

-- a first row counts the starts in its slot, less those on its unit in lesser periods
pub first_row-counts : (plant : Plant) (b : ℕ × ℕ) (plan : List Start) → Sound plant → HasPoint plant plan → IsSlotOf plant b →
    entries_sum (first_row plant b).entries (plan_point plant plan) ≡ pos (count_by (is_in plant b) plan) -ℤ pos (sum_by (before plant b) plan)
unfolding first_row
first_row-counts plant b plan sound has is =
    entries_sum-plan_point plant (first_part plant b) (λ start. pos (cond (is_in plant b start) 1 0) -ℤ pos (before plant b start)) plan sound has
    (λ slot is2 value. first_part-counts plant b slot value sound is is2)
    ∙ total-minus (λ start. cond (is_in plant b start) 1 0) (before plant b) plan

first_row-limit : (plant : Plant) (b : ℕ × ℕ) → (first_row plant b).limit ≡ pos 0
unfolding first_row
first_row-limit plant b = refl

pub first_row-kept : (plant : Plant) (b : ℕ × ℕ) (plan : List Start) → Sound plant → HasPoint plant plan → IsSlotOf plant b →
    IsKept (plan_point plant plan) (first_row plant b) ↔ (count_by (is_in plant b) plan ≤ sum_by (before plant b) plan)
first_row-kept plant b plan sound has is =
    let sum = first_row-counts plant b plan sound has is in
    let limit = first_row-limit plant b in
    (λ h. omega (arith, ints, sum, limit, h), λ h. omega (arith, ints, sum, limit, h))

-- the first row of a slot that is too early is among the rows
Contains-first_rows : (plant : Plant) (b : ℕ × ℕ) → Sound plant → IsSlotOf plant b → is_too_early plant b ≡ true → Contains (first_rows plant) (first_row plant b)
unfolding first_rows unit_first_rows
Contains-first_rows plant b sound is t =
    let unit = (run_at plant b.0).unit in
    let there : SoundRun plant (run_at plant b.0) = sound.runs b.0 no_run is.run in
    Contains-flat_map (unit_first_rows plant) (range_with_len 0 (length plant.units)) unit (first_row plant b)
    (Contains-range 0 (length plant.units) unit (omega arith) (omega (arith, there.unit)))
    (Contains-map (first_row plant) (filter (is_early_on plant unit) (slots plant)) b
    (Contains-filter (is_early_on plant unit) (slots plant) b (and_from _ _ (eq-eqb unit unit refl) t) (Contains-slots plant b is)))

-- what holds of the first row of each slot that is too early holds of all rows
pub All-first_rows : (P : Row → Type 0) (plant : Plant) → ((b : ℕ × ℕ) → IsSlotOf plant b → is_too_early plant b ≡ true → P (first_row plant b)) → All P (first_rows plant)
unfolding first_rows unit_first_rows
All-first_rows P plant h =
    All-flat_map P (unit_first_rows plant) (range_with_len 0 (length plant.units)) (λ k d l.
    let unit = get_or (range_with_len 0 (length plant.units)) k d in
    All-map P (first_row plant) (filter (is_early_on plant unit) (slots plant)) (λ i f n.
    h (get_or (filter (is_early_on plant unit) (slots plant)) i f) (All-filter (is_early_on plant unit) (IsSlotOf plant) (slots plant) (slots-are plant) i f n)
    (and_parts _ _ (filter_passes (is_early_on plant unit) (slots plant) i f n)).1))

-- a start comes first where none is earlier
pub none_earlier : (plan : List Start) (b : Start) → is_first plan b ≡ true → All (λ a. is_earlier a b ≡ false) plan
unfolding is_first
none_earlier plan b t k d l = not-true _ (AllPass-from_list_all (λ a. not (is_earlier a b)) plan t k d l)

pub is_first-from : (plan : List Start) (b : Start) → All (λ a. is_earlier a b ≡ false) plan → is_first plan b ≡ true
unfolding is_first
is_first-from plan b none = list_all-from_AllPass (λ a. not (is_earlier a b)) plan (λ k d l. not_from_false _ (none k d l))

-- a start in a slot sees the earlier starts as the slot does
before-same : (plant : Plant) (s : ℕ × ℕ) (a b : Start) → InSlot plant s b → is_before plant s a ≡ is_earlier a b
before-same plant s a b is = ap₂ (λ u n. a.unit == u && nat_lt a.period n) is.unit_is (sym is.period_is)

-- where none is earlier, none is counted
before-none : (plant : Plant) (s : ℕ × ℕ) (b : Start) (plan : List Start) → InSlot plant s b → All (λ a. is_earlier a b ≡ false) plan → sum_by (before plant s) plan ≡ 0
before-none plant s b plan is none =
    sum_by-zero (before plant s) plan (λ k d l.
    let a = get_or plan k d in
    let zero : cond (is_before plant s a) 1 0 ≡ 0 = cond-false {A = ℕ} (is_before plant s a) 1 0 (before-same plant s a b is ∙ none k d l) in
    elim (cases_Bool (is_in plant s a)) [
      | inl u ↦ cond-true {A = ℕ} (is_in plant s a) 0 (cond (is_before plant s a) 1 0) u
      | inr u ↦ cond-false {A = ℕ} (is_in plant s a) 0 (cond (is_before plant s a) 1 0) u ∙ zero
    ])

-- a start before a slot is not in it, so it is counted
before-one : (plant : Plant) (s : ℕ × ℕ) (a : Start) → is_before plant s a ≡ true → before plant s a ≡ 1
before-one plant s a u =
    let sooner : a.period < s.1 = ltb-true a.period s.1 (and_parts _ _ u).1 in
    let out : is_in plant s a ≡ false = false_from_ne_true (is_in plant s a) (λ h. let is = in_slot plant s a h in omega (arith, is.period_is, sooner)) in
    cond-false {A = ℕ} (is_in plant s a) 0 (cond (is_before plant s a) 1 0) out ∙ cond-true {A = ℕ} (is_before plant s a) 1 0 u

-- where none is counted, none is earlier
none-before : (plant : Plant) (s : ℕ × ℕ) (b : Start) (plan : List Start) → InSlot plant s b → sum_by (before plant s) plan ≡ 0 → All (λ a. is_earlier a b ≡ false) plan
none-before plant s b plan is zero k d l =
    let a = get_or plan k d in
    false_from_ne_true (is_earlier a b) (λ u.
    let one = before-one plant s a (before-same plant s a b is ∙ u) in
    omega (arith, one, zero, get_or-le-sum_by (before plant s) plan k d l))

-- a unit is ready for a start when it is for its slot
ready_is : (plant : Plant) (s : ℕ × ℕ) (b : Start) → InSlot plant s b → ready_at plant (run_at plant s.0).unit (run_at plant s.0).task ≡ ready_at plant b.unit b.task
ready_is plant s b is = ap₂ (ready_at plant) is.unit_is is.task_is

-- where the first rows are kept, first batches wait
begun_from_rows : (plant : Plant) (plan : List Start) → Sound plant → HasPoint plant plan → All (IsKept (plan_point plant plan)) (first_rows plant) → All (Begun plant plan) plan
begun_from_rows plant plan sound has kept i d l first =
    let b = get_or plan i d in
    let at = slotted plant plan i d sound has l in
    let s = at.slot in
    let is = in_slot plant s b at.holds in
    elim (cases_lt b.period (ready_at plant b.unit b.task)) [
      | inr h ↦ h
      | inl h ↦
          let early : is_too_early plant s ≡ true = lt-ltb _ _ (omega (arith, ready_is plant s b is, is.period_is, h)) in
          let row = All-contains (IsKept (plan_point plant plan)) (first_rows plant) (first_row plant s) kept (Contains-first_rows plant s sound at.is early) in
          let most = (first_row-kept plant s plan sound has at.is).0 row in
          let none = before-none plant s b plan is (none_earlier plan b first) in
          let one = one_counted (is_in plant s) plan i d l at.holds in
          absurd (omega (arith, most, none, one))
    ]

-- where first batches wait, there is no start in a slot that is too early, unless there is one before
row_from_begun : (plant : Plant) (plan : List Start) (s : ℕ × ℕ) → HasPoint plant plan → All (Begun plant plan) plan → is_too_early plant s ≡ true →
    count_by (is_in plant s) plan ≤ sum_by (before plant s) plan
row_from_begun plant plan s has begun early =
    let most = one_in_slot plant plan s has in
    elim (cases_lt 0 (sum_by (before plant s) plan)) [
      | inl k ↦ omega (arith, most, k)
      | inr k ↦ elim (cases_lt 0 (count_by (is_in plant s) plan)) [
        | inr h ↦ omega (arith, h)
        | inl h ↦
            let one = passes_one (is_in plant s) plan (omega (arith, h)) in
            let d : Start = start_in plant s 0 in
            let b = get_or plan one.place d in
            let is = in_slot plant s b (one.passes d) in
            let late = begun one.place d one.within (is_first-from plan b (none-before plant s b plan is (omega (arith, k)))) in
            absurd (omega (arith, late, ready_is plant s b is, is.period_is, ltb-true _ _ early))
      ]
    ]

-- the first rows are kept exactly where first batches wait
pub first_rows-kept : (plant : Plant) (plan : List Start) → Sound plant → HasPoint plant plan → All (IsKept (plan_point plant plan)) (first_rows plant) ↔ All (Begun plant plan) plan
first_rows-kept plant plan sound has = (
  begun_from_rows plant plan sound has,
  λ begun. All-first_rows (IsKept (plan_point plant plan)) plant (λ s is early. (first_row-kept plant s plan sound has is).1 (row_from_begun plant plan s has begun early)),
)

-- what is not something is none
pub none_from : {X : Type 0} (o : Option X) (b : Bool) → is_some o ≡ not b → b ≡ true → o ≡ None
none_from None b e t = refl
none_from (Some x) b e t = absurd (true≢false (e ∙ ap not t))

none_kept : {X : Type 0} (p : X → Bool) → ((x : X) → p x ≡ false) → (xs : List X) → filter p xs ≡ []
none_kept p none [] = refl
none_kept p none (x ∷ xs) = rw (none x) (none_kept p none xs)

-- no slot is too early on a unit that no batch held before
free_unit : (plant : Plant) (unit : ℕ) → (unit_at plant unit).last ≡ None → (slot : ℕ × ℕ) → is_early_on plant unit slot ≡ false
unfolding ready_at
free_unit plant unit free slot =
    elim (cases_Bool (is_on plant unit slot)) [
      | inl t ↦
          let run = run_at plant slot.0 in
          let none : (unit_at plant run.unit).last ≡ None = ap (λ u. (unit_at plant u).last) (eqb-true _ _ t) ∙ free in
          let now : run_ready plant run ≡ 0 = ap (ready_after plant run.unit run.task) none in
          ap (λ b. b && is_too_early plant slot) t ∙ ap (nat_lt slot.1) now ∙ le-ltb slot.1 0 (omega arith)
      | inr t ↦ ap (λ b. b && is_too_early plant slot) t
    ]

-- so it has no first rows
pub no_firsts : (plant : Plant) (unit : ℕ) → (unit_at plant unit).last ≡ None → unit_first_rows plant unit ≡ []
unfolding unit_first_rows
no_firsts plant unit free = ap (map (first_row plant)) (none_kept (is_early_on plant unit) (free_unit plant unit free) (slots plant))
