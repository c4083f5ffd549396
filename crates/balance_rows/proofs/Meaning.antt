-- What the rows say: the point of a plan keeps them exactly where the plan keeps every stock.
use Rattle.std.proofs.Common.{◌≡◌, ℕ, zero, suc, ◌+◌, ◌*◌, ◌<◌, ◌≤◌, ◌↔◌, List, [], ◌∷◌, length, map, get_or, sum_by, sym, refl, ap, ap₂, ◌∙◌, inl, inr, arith, Bool, true, false, ◌&&◌, leb, cond, eqb, ℤ, pos, negsuc, ◌+ℤ◌, ◌-ℤ◌, ◌*ℤ◌, ◌≤ℤ◌, slice_get}
use Rattle.std.specs.List.{All}
use Rattle.std.specs.Prelude.{IfSome}
use Rattle.std.proofs.lemmas.Int.{ints}
use Rattle.std.proofs.lemmas.Bool.{cases_eq, eq-eqb, ne_eqb}
use Rattle.std.proofs.lemmas.List.{length-map}
use Rattle.std.proofs.lemmas.List.Elements.{All-append}
use Rattle.std.proofs.lemmas.List.Sums.{sum_by-cons}
use Rattle.std.proofs.Math.IntN.{pos-*ℤ-pos, negsuc-*ℤ-pos}
use Rattle.stn_model.specs.declared.plant.Plant.{Plant}
use Rattle.stn_model.specs.declared.start.Start.{Start}
use Rattle.stn_model.specs.Sums.{total}
use Rattle.stn_model.specs.Plant.{state_at, no_state, task_at}
use Rattle.stn_model.specs.Stock.{taken, given, inflow, outflow, stock}
use Rattle.stn_model.specs.Feasible.{StockKept}
use Rattle.stn_model.specs.Sound.{Sound}
use Rattle.time_grid.specs.Slots.{slots}
use Rattle.time_grid.specs.PlanPoint.{HasPoint, plan_point, start_in}
use Rattle.time_grid.proofs.PlanPoints.{length-plan_point}
use Rattle.time_grid.proofs.PointSums.{counted_at, total_zip-is, total-minus, total-plan_point}
use Rattle.row_kit.specs.declared.row.Row.{Row}
use Rattle.row_kit.specs.Table.{row_table}
use Rattle.row_kit.specs.Row.{part_at, parts_sum, entries_from, entries_sum, IsKept}
use Rattle.row_kit.proofs.Gathered.{entries_sum-from}
use Rattle.row_kit.proofs.Tables.{All-front, All-back, All-row_table, row_table-each}
use Rattle.balance_rows.specs.StockRows.{taken_in, given_in, low_parts, high_parts, supply, low_row, high_row, limit_count, low_rows, high_rows, stock_rows}

-- a sum of terms that are each v times another is v times the other sum
sum_by-times : {X : Type 0} (f g : X → ℕ) (v : ℕ) → ((x : X) → f x ≡ v * g x) → (xs : List X) → sum_by f xs ≡ v * sum_by g xs
sum_by-times f g v each [] = omega arith
sum_by-times f g v each (x ∷ xs) =
    let rest : sum_by f xs ≡ v * sum_by g xs = sum_by-times f g v each xs in
    rw (sum_by-cons g x xs) (omega (arith, each x, rest, sum_by-cons f x xs))

-- a term that a test lets through is v times what it is for one quantum
scaled : (t : Bool) (v n : ℕ) → cond t (v * n) 0 ≡ v * cond t (1 * n) 0
scaled true v n = omega arith
scaled false v n = omega arith

-- a batch takes and gives, for each quantum, what one of a single quantum does
pub taken-scaled : (plant : Plant) (state time : ℕ) (slot : ℕ × ℕ) (v : ℕ) → taken plant state time (start_in plant slot v) ≡ v * taken_in plant state time slot
unfolding taken taken_in
taken-scaled plant state time slot v =
    sum_by-times (λ input. cond (eqb input.state state && leb slot.1 time) (v * input.amount) 0) (λ input. cond (eqb input.state state && leb slot.1 time) (1 * input.amount) 0) v
    (λ input. scaled (eqb input.state state && leb slot.1 time) v input.amount) (task_at plant (start_in plant slot v).task).inputs

pub given-scaled : (plant : Plant) (state time : ℕ) (slot : ℕ × ℕ) (v : ℕ) → given plant state time (start_in plant slot v) ≡ v * given_in plant state time slot
unfolding given given_in
given-scaled plant state time slot v =
    sum_by-times (λ output. cond (eqb output.state state && leb (slot.1 + output.delay) time) (v * output.amount) 0) (λ output. cond (eqb output.state state && leb (slot.1 + output.delay) time) (1 * output.amount) 0) v
    (λ output. scaled (eqb output.state state && leb (slot.1 + output.delay) time) v output.amount) (task_at plant (start_in plant slot v).task).outputs

-- what a start counts in a low row, and in a high row
abbrev lowers : Plant → ℕ → ℕ → Start → ℤ
lowers plant state time start = pos (taken plant state time start) -ℤ pos (given plant state time start)

abbrev raises : Plant → ℕ → ℕ → Start → ℤ
raises plant state time start = pos (given plant state time start) -ℤ pos (taken plant state time start)

-- a difference for each quantum, times the quanta
difference_times : (z : ℤ) (a b v : ℕ) → z ≡ pos a -ℤ pos b → pos 0 +ℤ (z *ℤ pos v) ≡ pos (v * a) -ℤ pos (v * b)
difference_times (pos k) a b v e =
    let more : a ≡ b + k = omega (arith, ints, e) in
    let product : v * a ≡ v * b + k * v = rw more (omega arith) in
    omega (arith, ints, pos-*ℤ-pos k v, product)
difference_times (negsuc k) a b v e =
    let more : b ≡ a + suc k = omega (arith, ints, e) in
    let product : v * b ≡ v * a + suc k * v = rw more (omega arith) in
    omega (arith, ints, negsuc-*ℤ-pos k v, product)

-- a slot with only a part for each quantum counts at a value what its start of that size does
counts_start : (plant : Plant) (g : Start → ℤ) (a b : ℕ) (slot : ℕ × ℕ) (v : ℕ) → g (start_in plant slot v) ≡ pos (v * a) -ℤ pos (v * b) → part_at (pos 0, pos a -ℤ pos b) v ≡ counted_at plant g slot v
counts_start plant g a b slot v e =
    elim (cases_eq v 0) [
      | inl z ↦ rw (eq-eqb v 0 z) refl
      | inr n ↦ rw (ne_eqb v 0 n) (difference_times (pos a -ℤ pos b) a b v refl ∙ sym e)
    ]

-- what the entries of slots sum to at a plan's point is what its starts count
entries_plan : (plant : Plant) (parts : ℕ × ℕ → ℤ × ℤ) (g : Start → ℤ) (plan : List Start) → Sound plant → HasPoint plant plan →
    ((slot : ℕ × ℕ) (v : ℕ) → part_at (parts slot) v ≡ counted_at plant g slot v) →
    entries_sum (entries_from 0 (map parts (slots plant))) (plan_point plant plan) ≡ total g plan
entries_plan plant parts g plan sound has each =
    entries_sum-from (map parts (slots plant)) (plan_point plant plan) (length-map (slots plant) parts ∙ sym (length-plan_point plant plan))
    ∙ total_zip-is (counted_at plant g) (λ grid values. parts_sum (map parts grid) values) (λ ys. refl) (λ x xs. refl) (λ x xs y ys. ap (λ n. n +ℤ parts_sum (map parts xs) ys) (each x y)) (slots plant) (plan_point plant plan)
    ∙ total-plan_point plant g plan sound has

low_parts-count : (plant : Plant) (state time : ℕ) (slot : ℕ × ℕ) (v : ℕ) → part_at (low_parts plant state time slot) v ≡ counted_at plant (lowers plant state time) slot v
unfolding low_parts
low_parts-count plant state time slot v =
    counts_start plant (lowers plant state time) (taken_in plant state time slot) (given_in plant state time slot) slot v
    (ap₂ (λ m n. pos m -ℤ pos n) (taken-scaled plant state time slot v) (given-scaled plant state time slot v))

high_parts-count : (plant : Plant) (state time : ℕ) (slot : ℕ × ℕ) (v : ℕ) → part_at (high_parts plant state time slot) v ≡ counted_at plant (raises plant state time) slot v
unfolding high_parts
high_parts-count plant state time slot v =
    counts_start plant (raises plant state time) (given_in plant state time slot) (taken_in plant state time slot) slot v
    (ap₂ (λ m n. pos m -ℤ pos n) (given-scaled plant state time slot v) (taken-scaled plant state time slot v))

-- at a plan's point a low row's entries sum to what the plan takes less what it gives
pub low_sum : (plant : Plant) (plan : List Start) (state time : ℕ) → Sound plant → HasPoint plant plan →
    entries_sum (low_row plant state time).entries (plan_point plant plan) ≡ pos (sum_by (taken plant state time) plan) -ℤ pos (sum_by (given plant state time) plan)
unfolding low_row
low_sum plant plan state time sound has =
    entries_plan plant (low_parts plant state time) (lowers plant state time) plan sound has (low_parts-count plant state time)
    ∙ total-minus (taken plant state time) (given plant state time) plan

-- and a high row's entries to what it gives less what it takes
pub high_sum : (plant : Plant) (plan : List Start) (state time : ℕ) → Sound plant → HasPoint plant plan →
    entries_sum (high_row plant state time).entries (plan_point plant plan) ≡ pos (sum_by (given plant state time) plan) -ℤ pos (sum_by (taken plant state time) plan)
unfolding high_row
high_sum plant plan state time sound has =
    entries_plan plant (high_parts plant state time) (raises plant state time) plan sound has (high_parts-count plant state time)
    ∙ total-minus (given plant state time) (taken plant state time) plan

-- the stock without any batch, less what the plan takes, and what it gives
stock_is : (plant : Plant) (plan : List Start) (state time : ℕ) →
    stock plant plan state time ≡ (supply plant state time +ℤ pos (sum_by (given plant state time) plan)) -ℤ pos (sum_by (taken plant state time) plan)
unfolding stock inflow outflow supply
stock_is plant plan state time = omega (arith, ints)

low_limit : (plant : Plant) (state time : ℕ) → (low_row plant state time).limit ≡ supply plant state time
unfolding low_row
low_limit plant state time = refl

high_limit : (plant : Plant) (state time : ℕ) → (high_row plant state time).limit ≡ pos (get_or (state_at plant state).limits time 0) -ℤ supply plant state time
unfolding high_row
high_limit plant state time = refl

-- at a plan's point a low row is kept exactly where the stock is not below 0
pub low_kept : (plant : Plant) (plan : List Start) (state time : ℕ) → Sound plant → HasPoint plant plan →
    IsKept (plan_point plant plan) (low_row plant state time) ↔ (pos 0 ≤ℤ stock plant plan state time)
low_kept plant plan state time sound has =
    let sum = low_sum plant plan state time sound has in
    let limit = low_limit plant state time in
    let is = stock_is plant plan state time in
    (λ h. omega (arith, ints), λ h. omega (arith, ints))

-- and a high row exactly where it is not above the limit
pub high_kept : (plant : Plant) (plan : List Start) (state time : ℕ) → Sound plant → HasPoint plant plan →
    IsKept (plan_point plant plan) (high_row plant state time) ↔ (stock plant plan state time ≤ℤ pos (get_or (state_at plant state).limits time 0))
high_kept plant plan state time sound has =
    let sum = high_sum plant plan state time sound has in
    let limit = high_limit plant state time in
    let is = stock_is plant plan state time in
    (λ h. omega (arith, ints), λ h. omega (arith, ints))

-- what holds of the item at a place, where there is one
IfSome-from_at : (P : ℕ → Type 0) (xs : List ℕ) (i : ℕ) → (i < length xs → P (get_or xs i 0)) → IfSome (slice_get xs i) P
IfSome-from_at P [] i h = tt
IfSome-from_at P (x ∷ xs) zero h = h (omega arith)
IfSome-from_at P (x ∷ xs) (suc i) h = IfSome-from_at P xs i (λ l. h (omega arith))

IfSome-at : (P : ℕ → Type 0) (xs : List ℕ) (i : ℕ) → IfSome (slice_get xs i) P → i < length xs → P (get_or xs i 0)
IfSome-at P [] i h l = absurd (omega arith)
IfSome-at P (x ∷ xs) zero h l = h
IfSome-at P (x ∷ xs) (suc i) h l = IfSome-at P xs i h (omega arith)

-- a sound plant has limits by the horizon only
limits-within : (plant : Plant) (state time : ℕ) → Sound plant → state < length plant.states → time < length (state_at plant state).limits → time ≤ plant.periods
limits-within plant state time sound l m =
    elim ((sound.states state no_state l).limits) [
      | inl none ↦ absurd (omega (arith, ap length none))
      | inr each ↦ omega (arith, each)
    ]

-- the point of a plan keeps the stock rows exactly where the plan keeps every stock
pub stock_rows-kept : (plant : Plant) (plan : List Start) → Sound plant → HasPoint plant plan →
    All (IsKept (plan_point plant plan)) (stock_rows plant) ↔ ((state time : ℕ) → state < length plant.states → time ≤ plant.periods → StockKept plant plan state time)
unfolding stock_rows low_rows high_rows limit_count
stock_rows-kept plant plan sound has =
    let kept : Row → Type 0 = IsKept (plan_point plant plan) in
    let times : ℕ → ℕ = λ state. plant.periods + 1 in
    let low = row_table (low_row plant) times (length plant.states) in
    let high = row_table (high_row plant) (limit_count plant) (length plant.states) in (
      λ all state time l m. record {
        low = (low_kept plant plan state time sound has).0 (row_table-each kept (low_row plant) times (length plant.states) (All-front kept low high all) state time l (omega arith));
        high = IfSome-from_at (λ limit. stock plant plan state time ≤ℤ pos limit) (state_at plant state).limits time
            (λ n. (high_kept plant plan state time sound has).0 (row_table-each kept (high_row plant) (limit_count plant) (length plant.states) (All-back kept low high all) state time l n));
      },
      λ keeps. All-append kept low high
          (All-row_table kept (low_row plant) times (length plant.states) (λ state time l m. (low_kept plant plan state time sound has).1 (keeps state time l (omega arith)).low))
          (All-row_table kept (high_row plant) (limit_count plant) (length plant.states)
          (λ state time l m. (high_kept plant plan state time sound has).1
          (IfSome-at (λ limit. stock plant plan state time ≤ℤ pos limit) (state_at plant state).limits time (keeps state time l (limits-within plant state time sound l m)).high m))),
    )
