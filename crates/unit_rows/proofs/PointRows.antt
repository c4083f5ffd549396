-- What rows of slots sum to at the point of a plan, and what a start in a slot is.
use Rattle.std.proofs.Common.{◌≡◌, ℕ, ◌<◌, ◌≤◌, Bool, true, false, eqb, cond, List, length, get_or, map, count_by, ℤ, pos, negsuc, ◌+ℤ◌, ◌-ℤ◌, ◌*ℤ◌, sym, refl, ap, ap₂, ◌∙◌, subst, arith}
use Rattle.std.proofs.lemmas.Int.{ints}
use Rattle.std.proofs.lemmas.List.{length-map}
use Rattle.std.proofs.lemmas.Bool.{eqb-true, eq-eqb, and_parts, and_from}
use Rattle.stn_model.specs.declared.plant.Plant.{Plant}
use Rattle.stn_model.specs.declared.start.Start.{Start}
use Rattle.stn_model.specs.Sound.{Sound}
use Rattle.stn_model.specs.Sums.{total}
use Rattle.stn_model.specs.Plant.{run_at}
use Rattle.time_grid.specs.Slots.{slots, is_slot, IsSlotOf}
use Rattle.time_grid.specs.PlanPoint.{HasPoint, plan_point, start_in, is_in}
use Rattle.time_grid.proofs.PlanPoints.{length-plan_point, share-from_in, same_slot}
use Rattle.time_grid.proofs.PointPlan.{in_own}
use Rattle.time_grid.proofs.Fitting.{fits-at}
use Rattle.time_grid.proofs.SlotList.{slots-are}
use Rattle.time_grid.proofs.PointSums.{counted_at, total_zip-agree, total_zip-is, total-plan_point}
use Rattle.row_kit.specs.Row.{entries_sum, entries_from, part_at, parts_sum}
use Rattle.row_kit.proofs.Gathered.{entries_sum-from}
use Rattle.unit_rows.proofs.Counts.{at_most_one, same_test}

-- the entries of all slots sum to what the plan's starts count, where each slot counts what its starts do
pub entries_sum-plan_point : (plant : Plant) (part : ℕ × ℕ → ℤ × ℤ) (g : Start → ℤ) (plan : List Start) → Sound plant → HasPoint plant plan →
    ((slot : ℕ × ℕ) → IsSlotOf plant slot → (value : ℕ) → (part slot).0 +ℤ ((part slot).1 *ℤ pos value) ≡ g (start_in plant slot value)) →
    entries_sum (entries_from 0 (map part (slots plant))) (plan_point plant plan) ≡ total g plan
entries_sum-plan_point plant part g plan sound has agree =
    entries_sum-from (map part (slots plant)) (plan_point plant plan) (length-map (slots plant) part ∙ sym (length-plan_point plant plan))
    ∙ total_zip-is (λ slot value. part_at (part slot) value) (λ grid values. parts_sum (map part grid) values) (λ ys. refl) (λ x xs. refl) (λ x xs y ys. refl) (slots plant) (plan_point plant plan)
    ∙ total_zip-agree (λ slot value. part_at (part slot) value) (counted_at plant g) (slots plant) (plan_point plant plan)
    (λ k d l value. ap (cond (eqb value 0) (pos 0)) (agree _ (slots-are plant k d l) value))
    ∙ total-plan_point plant g plan sound has

-- what holds of a start in a slot
pub record InSlot (plant : Plant) (slot : ℕ × ℕ) (start : Start) : Type 0 where
  pub period_is : start.period ≡ slot.1
  pub unit_is : (run_at plant slot.0).unit ≡ start.unit
  pub task_is : (run_at plant slot.0).task ≡ start.task

pub in_slot : (plant : Plant) (slot : ℕ × ℕ) (start : Start) → is_in plant slot start ≡ true → InSlot plant slot start
in_slot plant slot start t =
    let one = and_parts _ _ t in
    let of = and_parts _ _ one.1 in
    record { period_is = eqb-true _ _ one.0; unit_is = eqb-true _ _ of.1; task_is = eqb-true _ _ of.0 }

-- a slot is the one of a run and a period exactly where its starts are in that one
pub is_slot-in : (plant : Plant) (a c : ℕ × ℕ) (value : ℕ) → Sound plant → IsSlotOf plant a → IsSlotOf plant c → is_slot a.0 a.1 c ≡ is_in plant a (start_in plant c value)
is_slot-in plant a c value sound is is2 =
    same_test (is_slot a.0 a.1 c) (is_in plant a (start_in plant c value))
    (λ t.
    let parts = and_parts _ _ t in
    let same : c ≡ a = ap₂ (λ x y. (x, y)) (eqb-true _ _ parts.0) (eqb-true _ _ parts.1) in
    subst (λ (s : ℕ × ℕ). is_in plant s (start_in plant c value) ≡ true) same (in_own plant c value))
    (λ t.
    let same : c ≡ a = same_slot plant c a (start_in plant c value) sound is2 is (in_own plant c value) t in
    and_from _ _ (eq-eqb _ _ (ap (λ s. s.0) same)) (eq-eqb _ _ (ap (λ s. s.1) same)))

-- what a part of 1, -1 or 0 counts
pub part_is : (x y : Bool) (n : ℕ) → cond x (pos 1) (cond y (negsuc 0) (pos 0)) +ℤ (pos 0 *ℤ pos n) ≡ pos (cond x 1 0) -ℤ pos (cond x 0 (cond y 1 0))
part_is true y n = omega (arith, ints)
part_is false true n = omega (arith, ints)
part_is false false n = omega (arith, ints)

-- the slot of a start of a plan
pub record Slotted (plant : Plant) (a : Start) : Type 0 where
  pub slot : ℕ × ℕ
  pub is : IsSlotOf plant slot
  pub holds : is_in plant slot a ≡ true

pub slotted : (plant : Plant) (plan : List Start) (i : ℕ) (d : Start) → Sound plant → HasPoint plant plan → i < length plan → Slotted plant (get_or plan i d)
slotted plant plan i d sound has l =
    let a = get_or plan i d in
    let at = fits-at plant a sound (has.fits i d l) in
    record { slot = (at.run, a.period); is = at.slot; holds = at.holds }

-- one start at most is in a slot
pub one_in_slot : (plant : Plant) (plan : List Start) (s : ℕ × ℕ) → HasPoint plant plan → count_by (is_in plant s) plan ≤ 1
one_in_slot plant plan s has =
    at_most_one (is_in plant s) plan (λ i j d l m t u. has.apart i j d l m (share-from_in plant s (get_or plan i d) (get_or plan j d) t u))
