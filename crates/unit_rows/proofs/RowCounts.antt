-- How many busy, gap and first rows there are, and the bounds that they keep.
use Rattle.std.proofs.Common.{◌≡◌, ℕ, zero, suc, ◌+◌, ◌<◌, ◌≤◌, ◌==◌, ◌&&◌, Bool, true, false, cond, if◌then◌else◌, List, [], ◌∷◌, length, get_or, map, filter, sum_by, count_by, ℤ, pos, negsuc, unsigned_abs, refl, ◌∙◌, subst, arith, inl, inr}
use Rattle.std.specs.List.{All, range_with_len}
use Rattle.std.proofs.lemmas.List.{length-map}
use Rattle.std.proofs.lemmas.List.Concat.{length-flat_map}
use Rattle.std.proofs.lemmas.List.FromFn.{length-range_with_len, length-map-range_with_len}
use Rattle.std.proofs.lemmas.List.Elements.{All-map}
use Rattle.std.proofs.lemmas.List.Sums.{sum_by-cons, sum_by-le, sum_by-le-sum_by, length-filter}
use Rattle.std.proofs.lemmas.Bool.{eq-eqb, ne_eqb, cases_eq, cond-true, cond-false}
use Rattle.stn_model.specs.declared.plant.Plant.{Plant}
use Rattle.stn_model.specs.declared.plant.Run.{Run}
use Rattle.stn_model.specs.Points.{has_slot, meets_gap, gap_pairs}
use Rattle.stn_model.specs.Sound.{Sound}
use Rattle.stn_model.specs.Sums.{sum_below, count_below}
use Rattle.stn_model.specs.Plant.{run_at}
use Rattle.time_grid.specs.Slots.{slots, is_slot}
use Rattle.time_grid.proofs.SlotList.{sum_by-same, sum_by-filter, sum-slots, few-slots}
use Rattle.time_grid.proofs.OnePlan.{sum_by-zero}
use Rattle.unit_rows.proofs.Counts.{sum_by-add}
use Rattle.row_kit.specs.Row.{entries_from}
use Rattle.row_kit.specs.Bounds.{AreBounded, IsBoundedRow}
use Rattle.row_kit.proofs.Gathered.{IsPartWithin, AreBounded-from}
use Rattle.unit_rows.specs.Busy.{is_on, runs_in, busy_part, busy_row, unit_busy_rows, busy_rows}
use Rattle.unit_rows.specs.Gaps.{is_either, lies_between, gap_part, gap_row, is_too_soon, rows_after, unit_gap_rows, gap_rows}
use Rattle.unit_rows.specs.Firsts.{lies_before, first_part, first_row, is_too_early, is_early_on, unit_first_rows, first_rows}
use Rattle.unit_rows.proofs.BusyRows.{All-busy_rows}
use Rattle.unit_rows.proofs.GapRows.{All-gap_rows}
use Rattle.unit_rows.proofs.FirstRows.{All-first_rows}

-- a row of small parts, one for each slot, with a limit of 1 at most, keeps its bounds
small_row : (plant : Plant) (part : ℕ × ℕ → ℤ × ℤ) (n : ℕ) → n ≤ 1 → ((slot : ℕ × ℕ) → IsPartWithin 1 (part slot)) →
    IsBoundedRow (length (slots plant)) (record { entries = entries_from 0 (map part (slots plant)); limit = pos n })
small_row plant part n few small =
    let all : All (IsPartWithin 10000000) (map part (slots plant)) = All-map (IsPartWithin 10000000) part (slots plant) (λ k d l.
    let is = small (get_or (slots plant) k d) in record { fixed = omega (arith, is.fixed); per = omega (arith, is.per) }) in
    record {
      entries = subst (λ (n : ℕ). AreBounded n 10000000 (entries_from 0 (map part (slots plant)))) (length-map (slots plant) part) (AreBounded-from 10000000 (map part (slots plant)) all);
      limit = omega (arith, few);
    }

one_small : (b : Bool) → unsigned_abs (cond b (pos 1) (pos 0)) ≤ 1
one_small true = omega arith
one_small false = omega arith

sign_small : (b c : Bool) → unsigned_abs (cond b (pos 1) (cond c (negsuc 0) (pos 0))) ≤ 1
sign_small true c = omega arith
sign_small false true = omega arith
sign_small false false = omega arith

-- the busy rows keep the bounds of rows
pub busy_rows-bounded : (plant : Plant) → All (IsBoundedRow (length (slots plant))) (busy_rows plant)
unfolding busy_row
busy_rows-bounded plant =
    All-busy_rows (IsBoundedRow (length (slots plant))) plant (λ unit period.
    small_row plant (busy_part plant unit period) 1 (omega arith) (λ slot. record { fixed = one_small (runs_in plant unit period slot); per = omega arith }))

-- so do the gap rows
pub gap_rows-bounded : (plant : Plant) → All (IsBoundedRow (length (slots plant))) (gap_rows plant)
unfolding gap_row
gap_rows-bounded plant =
    All-gap_rows (IsBoundedRow (length (slots plant))) plant (λ a b is is2 soon.
    small_row plant (gap_part plant a b) 1 (omega arith) (λ slot. record { fixed = sign_small (is_either a b slot) (lies_between plant a b slot); per = omega arith }))

-- and the first rows
pub first_rows-bounded : (plant : Plant) → All (IsBoundedRow (length (slots plant))) (first_rows plant)
unfolding first_row
first_rows-bounded plant =
    All-first_rows (IsBoundedRow (length (slots plant))) plant (λ b is early.
    small_row plant (first_part plant b) 0 (omega arith) (λ slot. record { fixed = sign_small (is_slot b.0 b.1 slot) (lies_before plant b slot); per = omega arith }))

-- there is a busy row for each unit and period
pub length-busy_rows : (plant : Plant) → Sound plant → length (busy_rows plant) ≤ 32256
unfolding busy_rows unit_busy_rows
length-busy_rows plant sound =
    let units = range_with_len 0 (length plant.units) in
    let each : All (λ unit. length (map (busy_row plant unit) (range_with_len 0 plant.periods)) ≤ 336) units =
    λ k d l. omega (arith, length-map-range_with_len (busy_row plant (get_or units k d)) 0 plant.periods, sound.counts.periods.1) in
    let most = sum_by-le (λ unit. length (map (busy_row plant unit) (range_with_len 0 plant.periods))) 336 units each in
    let all = length-flat_map (λ unit. map (busy_row plant unit) (range_with_len 0 plant.periods)) units in
    omega (arith, all, most, length-range_with_len 0 (length plant.units), sound.counts.units)

-- a number that stands before a range is not in it
not_in_range : (v n a k : ℕ) → v < a → sum_by (λ j. if v == j then n else 0) (range_with_len a k) ≡ 0
not_in_range v n a zero l = refl
not_in_range v n a (suc k) l =
    let more = sum_by-cons (λ j. if v == j then n else 0) a (range_with_len (a + 1) k) in
    let rest = not_in_range v n (a + 1) k (omega arith) in
    let here = cond-false {A = ℕ} (v == a) n 0 (ne_eqb v a (λ e. omega arith)) in
    omega (arith, more, rest, here)

-- a number is at most once in a range
once_in_range : (v n a k : ℕ) → sum_by (λ j. if v == j then n else 0) (range_with_len a k) ≤ n
once_in_range v n a zero = omega arith
once_in_range v n a (suc k) =
    let more = sum_by-cons (λ j. if v == j then n else 0) a (range_with_len (a + 1) k) in
    elim (cases_eq v a) [
      | inl e ↦
          let rest = not_in_range v n (a + 1) k (omega arith) in
          let here = cond-true {A = ℕ} (v == a) n 0 (eq-eqb v a e) in
          omega (arith, more, rest, here)
      | inr e ↦
          let rest = once_in_range v n (a + 1) k in
          let here = cond-false {A = ℕ} (v == a) n 0 (ne_eqb v a e) in
          omega (arith, more, rest, here)
    ]

-- each item has one class, so the sums of the classes are at most the sum
classes : {X : Type 0} (class n : X → ℕ) (xs : List X) (k : ℕ) → sum_by (λ j. sum_by (λ x. if class x == j then n x else 0) xs) (range_with_len 0 k) ≤ sum_by n xs
classes class n [] k = omega (arith, sum_by-zero (λ j. 0) (range_with_len 0 k) (λ i d l. refl))
classes {X} class n (x ∷ xs) k =
    let own : ℕ → ℕ = λ j. if class x == j then n x else 0 in
    let others : ℕ → ℕ = λ j. sum_by (λ y. if class y == j then n y else 0) xs in
    let split = sum_by-le-sum_by (λ j. sum_by (λ y. if class y == j then n y else 0) (x ∷ xs)) (λ j. own j + others j) (range_with_len 0 k)
    (λ j. omega (arith, sum_by-cons (λ (y : X). if class y == j then n y else 0) x xs)) in
    let added = sum_by-add own others (range_with_len 0 k) in
    let first = once_in_range (class x) (n x) 0 k in
    let rest = classes class n xs k in
    let whole = sum_by-cons n x xs in
    omega (arith, split, added, first, rest, whole)

below-le : (f g : ℕ → ℕ) → ((k : ℕ) → f k ≤ g k) → (n : ℕ) → sum_below f n ≤ sum_below g n
below-le f g h zero = omega arith
below-le f g h (suc n) = omega (arith, h n, below-le f g h n)

pub if_most : (b : Bool) (n : ℕ) → (if b then n else 0) ≤ n
if_most true n = omega arith
if_most false n = omega arith

-- a sum over the slots is at most the sum over all runs and periods
slots-most : (plant : Plant) (f : Run → ℕ → ℕ) → sum_by (λ slot. f (run_at plant slot.0) slot.1) (slots plant) ≤ sum_by (λ run. sum_below (f run) plant.periods) plant.runs
slots-most plant f =
    let most = sum_by-le-sum_by (λ run. sum_below (λ period. if has_slot plant run period then f run period else 0) plant.periods) (λ run. sum_below (f run) plant.periods) plant.runs
    (λ run. below-le (λ period. if has_slot plant run period then f run period else 0) (f run) (λ period. if_most (has_slot plant run period) (f run period)) plant.periods) in
    omega (arith, most, sum-slots plant f)

-- how many slots are too near after one
abbrev near : Plant → ℕ × ℕ → ℕ
near plant a = count_by (is_too_soon plant a) (slots plant)

length-rows_after : (plant : Plant) (a : ℕ × ℕ) → length (rows_after plant a (slots plant)) ≡ near plant a
length-rows_after plant a = length-map (filter (is_too_soon plant a) (slots plant)) (gap_row plant a) ∙ length-filter (is_too_soon plant a) (slots plant)

length-unit_gap_rows : (plant : Plant) (unit : ℕ) → length (unit_gap_rows plant unit) ≡ sum_by (λ a. if is_on plant unit a then near plant a else 0) (slots plant)
unfolding unit_gap_rows
length-unit_gap_rows plant unit =
    length-flat_map (λ a. rows_after plant a (slots plant)) (filter (is_on plant unit) (slots plant))
    ∙ sum_by-same (λ a. length (rows_after plant a (slots plant))) (near plant) (length-rows_after plant) (filter (is_on plant unit) (slots plant))
    ∙ sum_by-filter (is_on plant unit) (near plant) (slots plant)

-- there are at most as many gap rows as pairs of slots that the cleaning keeps apart
pub gap_rows-pairs : (plant : Plant) → length (gap_rows plant) ≤ gap_pairs plant
unfolding gap_rows gap_pairs
gap_rows-pairs plant =
    let units = range_with_len 0 (length plant.units) in
    let after : Run → ℕ → ℕ = λ a p. sum_by (λ b. count_below (meets_gap plant a p b) plant.periods) plant.runs in
    let all = length-flat_map (unit_gap_rows plant) units in
    let each = sum_by-same (λ unit. length (unit_gap_rows plant unit)) (λ unit. sum_by (λ a. if is_on plant unit a then near plant a else 0) (slots plant)) (length-unit_gap_rows plant) units in
    let once = classes (λ a. (run_at plant a.0).unit) (near plant) (slots plant) (length plant.units) in
    let few = sum_by-le-sum_by (near plant) (λ slot. after (run_at plant slot.0) slot.1) (slots plant)
    (λ a. slots-most plant (λ b q. cond (meets_gap plant (run_at plant a.0) a.1 b q) 1 0)) in
    let most = slots-most plant after in
    omega (arith, all, each, once, few, most)

pub length-gap_rows : (plant : Plant) → Sound plant → length (gap_rows plant) ≤ 32768
length-gap_rows plant sound = omega (arith, gap_rows-pairs plant, sound.counts.gap_pairs)

both_most : (a b : Bool) → cond (a && b) 1 0 ≤ cond a 1 0
both_most true true = omega arith
both_most true false = omega arith
both_most false b = omega arith

length-unit_first_rows : (plant : Plant) (unit : ℕ) → length (unit_first_rows plant unit) ≤ count_by (is_on plant unit) (slots plant)
unfolding unit_first_rows
length-unit_first_rows plant unit =
    let all = length-map (filter (is_early_on plant unit) (slots plant)) (first_row plant) in
    let few = length-filter (is_early_on plant unit) (slots plant) in
    let less = sum_by-le-sum_by (λ slot. cond (is_early_on plant unit slot) 1 0) (λ slot. cond (is_on plant unit slot) 1 0) (slots plant)
    (λ slot. both_most (is_on plant unit slot) (is_too_early plant slot)) in
    omega (arith, all, few, less)

-- there is at most one first row for each slot
pub first_rows-slots : (plant : Plant) → length (first_rows plant) ≤ length (slots plant)
unfolding first_rows
first_rows-slots plant =
    let units = range_with_len 0 (length plant.units) in
    let all = length-flat_map (unit_first_rows plant) units in
    let each = sum_by-le-sum_by (λ unit. length (unit_first_rows plant unit)) (λ unit. count_by (is_on plant unit) (slots plant)) units (length-unit_first_rows plant) in
    let once = classes (λ slot. (run_at plant slot.0).unit) (λ slot. 1) (slots plant) (length plant.units) in
    let ones = sum_by-le (λ slot. 1) 1 (slots plant) (λ k d l. omega arith) in
    omega (arith, all, each, once, ones)

pub length-first_rows : (plant : Plant) → Sound plant → length (first_rows plant) ≤ 4096
length-first_rows plant sound = omega (arith, first_rows-slots plant, few-slots plant sound)
