-- How large the rows' numbers are, and how many rows there are.
use Rattle.std.proofs.Common.{ℕ, ◌+◌, ◌*◌, ◌<◌, ◌≤◌, length, map, get_or, ap, subst, inl, inr, arith, Bool, true, false, ◌&&◌, leb, eqb, cond, ℤ, unsigned_abs}
use Rattle.std.specs.List.{All}
use Rattle.std.proofs.lemmas.Int.{ints}
use Rattle.std.proofs.lemmas.List.{length-map, length-append}
use Rattle.std.proofs.lemmas.List.Elements.{All-map, All-append}
use Rattle.std.proofs.lemmas.List.Sums.{sum_by-le, sum_by-le-sum_by}
use Rattle.stn_model.specs.declared.plant.Plant.{Plant}
use Rattle.stn_model.specs.Plant.{state_at, no_state, task_at, no_task, no_run, run_at}
use Rattle.stn_model.specs.Stock.{received, delivered, taken, given}
use Rattle.stn_model.specs.Sound.{Sound}
use Rattle.time_grid.specs.Slots.{slots, IsSlotOf}
use Rattle.time_grid.proofs.SlotList.{slots-are}
use Rattle.row_kit.specs.declared.row.Row.{Row}
use Rattle.row_kit.specs.Bounds.{AreBounded, IsBoundedRow}
use Rattle.row_kit.specs.Row.{entries_from}
use Rattle.row_kit.specs.Table.{row_table}
use Rattle.row_kit.proofs.Gathered.{IsPartWithin, AreBounded-from}
use Rattle.row_kit.proofs.Tables.{All-row_table, length-row_table}
use Rattle.balance_rows.specs.StockRows.{taken_in, given_in, low_parts, high_parts, supply, low_row, high_row, limit_count, low_rows, high_rows, stock_rows}

-- what a test lets through is no more than the whole
let_through : (t : Bool) (n : ℕ) → cond t (1 * n) 0 ≤ n
let_through true n = omega arith
let_through false n = omega arith

-- a batch of one quantum takes no more than a quantum from a state, and gives no more
taken_in-small : (plant : Plant) (state time : ℕ) (slot : ℕ × ℕ) → Sound plant → IsSlotOf plant slot → taken_in plant state time slot ≤ 1000000
unfolding taken_in taken
taken_in-small plant state time slot sound is =
    let task = (run_at plant slot.0).task in
    let fine = sound.tasks task no_task (sound.runs slot.0 no_run is.run).task in
    let less = sum_by-le-sum_by (λ input. cond (eqb input.state state && leb slot.1 time) (1 * input.amount) 0) (λ input. input.amount) (task_at plant task).inputs
    (λ input. let_through (eqb input.state state && leb slot.1 time) input.amount) in
    omega (arith, less, fine.taken, fine.quantum)

given_in-small : (plant : Plant) (state time : ℕ) (slot : ℕ × ℕ) → Sound plant → IsSlotOf plant slot → given_in plant state time slot ≤ 1000000
unfolding given_in given
given_in-small plant state time slot sound is =
    let task = (run_at plant slot.0).task in
    let fine = sound.tasks task no_task (sound.runs slot.0 no_run is.run).task in
    let less = sum_by-le-sum_by (λ output. cond (eqb output.state state && leb (slot.1 + output.delay) time) (1 * output.amount) 0) (λ output. output.amount) (task_at plant task).outputs
    (λ output. let_through (eqb output.state state && leb (slot.1 + output.delay) time) output.amount) in
    omega (arith, less, fine.given, fine.quantum)

low_parts-small : (plant : Plant) (state time : ℕ) → Sound plant → All (IsPartWithin 10000000) (map (low_parts plant state time) (slots plant))
unfolding low_parts
low_parts-small plant state time sound =
    All-map (IsPartWithin 10000000) (low_parts plant state time) (slots plant)
    (λ k d l.
    let is = slots-are plant k d l in
    let t = taken_in-small plant state time (get_or (slots plant) k d) sound is in
    let g = given_in-small plant state time (get_or (slots plant) k d) sound is in
    record { fixed = omega arith; per = omega (arith, ints) })

high_parts-small : (plant : Plant) (state time : ℕ) → Sound plant → All (IsPartWithin 10000000) (map (high_parts plant state time) (slots plant))
unfolding high_parts
high_parts-small plant state time sound =
    All-map (IsPartWithin 10000000) (high_parts plant state time) (slots plant)
    (λ k d l.
    let is = slots-are plant k d l in
    let t = taken_in-small plant state time (get_or (slots plant) k d) sound is in
    let g = given_in-small plant state time (get_or (slots plant) k d) sound is in
    record { fixed = omega arith; per = omega (arith, ints) })

counted_once : (t : Bool) (n m : ℕ) → n ≤ m → cond t n 0 ≤ m
counted_once true n m h = h
counted_once false n m h = omega arith

supply-small : (plant : Plant) (state time : ℕ) → Sound plant → state < length plant.states → unsigned_abs (supply plant state time) ≤ 901000000000
unfolding supply received delivered
supply-small plant state time sound l =
    let initial = (sound.states state no_state l).initial in
    let came = sum_by-le (λ receipt. cond (eqb receipt.state state && leb receipt.time time) receipt.amount 0) 1000000000 plant.receipts
    (λ k d m. counted_once (eqb (get_or plant.receipts k d).state state && leb (get_or plant.receipts k d).time time) (get_or plant.receipts k d).amount 1000000000 (omega (arith, (sound.receipts k d m).amount))) in
    let went = sum_by-le (λ delivery. cond (eqb delivery.state state && leb delivery.time time) delivery.amount 0) 1000000000 plant.deliveries
    (λ k d m. counted_once (eqb (get_or plant.deliveries k d).state state && leb (get_or plant.deliveries k d).time time) (get_or plant.deliveries k d).amount 1000000000 (omega (arith, (sound.deliveries k d m).amount))) in
    omega (arith, ints, initial, came, went, sound.counts.receipts, sound.counts.deliveries)

-- entries of the plant's slots, whatever is known of their number
bounded_entries : (plant : Plant) (parts : ℕ × ℕ → ℤ × ℤ) → All (IsPartWithin 10000000) (map parts (slots plant)) → AreBounded (length (slots plant)) 10000000 (entries_from 0 (map parts (slots plant)))
bounded_entries plant parts small =
    subst (λ (n : ℕ). AreBounded n 10000000 (entries_from 0 (map parts (slots plant)))) (length-map (slots plant) parts) (AreBounded-from 10000000 (map parts (slots plant)) small)

low_row-bounded : (plant : Plant) (state time : ℕ) → Sound plant → state < length plant.states → IsBoundedRow (length (slots plant)) (low_row plant state time)
unfolding low_row
low_row-bounded plant state time sound l =
    let supply_small = supply-small plant state time sound l in
    record { entries = bounded_entries plant (low_parts plant state time) (low_parts-small plant state time sound); limit = omega arith }

high_row-bounded : (plant : Plant) (state time : ℕ) → Sound plant → state < length plant.states → time < length (state_at plant state).limits → IsBoundedRow (length (slots plant)) (high_row plant state time)
unfolding high_row
high_row-bounded plant state time sound l m =
    let supply_small = supply-small plant state time sound l in
    let limit_small = (sound.states state no_state l).limit time 0 m in
    record { entries = bounded_entries plant (high_parts plant state time) (high_parts-small plant state time sound); limit = omega (arith, ints) }

-- the stock rows keep the bounds of rows
pub stock_rows-bounded : (plant : Plant) → Sound plant → All (IsBoundedRow (length (slots plant))) (stock_rows plant)
unfolding stock_rows low_rows high_rows limit_count
stock_rows-bounded plant sound =
    let bounded : Row → Type 0 = IsBoundedRow (length (slots plant)) in
    let times : ℕ → ℕ = λ state. plant.periods + 1 in
    All-append bounded (row_table (low_row plant) times (length plant.states)) (row_table (high_row plant) (limit_count plant) (length plant.states))
    (All-row_table bounded (low_row plant) times (length plant.states) (λ state time l m. low_row-bounded plant state time sound l))
    (All-row_table bounded (high_row plant) (limit_count plant) (length plant.states) (λ state time l m. high_row-bounded plant state time sound l m))

times-small : (states times : ℕ) → states ≤ 160 → times ≤ 337 → states * times ≤ 53920
times-small states times h k = grind arith

limit_count-small : (plant : Plant) (state : ℕ) → Sound plant → state < length plant.states → limit_count plant state ≤ 337
unfolding limit_count
limit_count-small plant state sound l =
    elim ((sound.states state no_state l).limits) [
      | inl none ↦ omega (arith, ap length none)
      | inr each ↦ omega (arith, each, sound.counts.periods)
    ]

-- how many stock rows there are at most
pub length-stock_rows : (plant : Plant) → Sound plant → length (stock_rows plant) ≤ 107840
unfolding stock_rows low_rows high_rows
length-stock_rows plant sound =
    let n = length plant.states in
    let times : ℕ → ℕ = λ state. plant.periods + 1 in
    let low = length-row_table (low_row plant) times 337 n (λ i l. omega (arith, sound.counts.periods)) in
    let high = length-row_table (high_row plant) (limit_count plant) 337 n (λ i l. limit_count-small plant i sound l) in
    omega (arith, low, high, length-append (row_table (low_row plant) times n) (row_table (high_row plant) (limit_count plant) n), sound.counts.states)
