-- How large the rows' numbers are, and how many rows there are.
use Rattle.std.proofs.Common.{ℕ, ◌+◌, ◌-◌, ◌*◌, ◌<◌, ◌≤◌, Bool, true, false, cond, eqb, List, length, map, get_or, sum_by, subst, inl, inr, arith}
use Rattle.std.specs.List.{All}
use Rattle.std.proofs.lemmas.Bool.{cases_lt}
use Rattle.std.proofs.lemmas.List.{length-map, get_or_past}
use Rattle.std.proofs.lemmas.List.Elements.{All-map}
use Rattle.std.proofs.lemmas.List.Sums.{sum_by-le}
use Rattle.stn_model.specs.declared.plant.Plant.{Plant}
use Rattle.stn_model.specs.Plant.{task_at, no_task, utility_at, no_utility, no_run, run_at}
use Rattle.stn_model.specs.Load.{drawn_in, drawn}
use Rattle.stn_model.specs.Sound.{Sound}
use Rattle.time_grid.specs.Slots.{slots, IsSlotOf}
use Rattle.time_grid.proofs.SlotList.{slots-are}
use Rattle.row_kit.specs.Bounds.{AreBounded, IsBoundedRow}
use Rattle.row_kit.specs.Row.{entries_from}
use Rattle.row_kit.proofs.Gathered.{IsPartWithin, AreBounded-from}
use Rattle.row_kit.proofs.Tables.{All-row_table, length-row_table}
use Rattle.utility_rows.specs.LoadRows.{is_running, fixed_drawn, each_in, each_drawn, load_parts, load_row, load_rows}

-- a number at any place of a list of small ones
at_small : (xs : List ℕ) (most k : ℕ) → All (λ x. x ≤ most) xs → get_or xs k 0 ≤ most
at_small xs most k small =
    elim (cases_lt k (length xs)) [
      | inl l ↦ small k 0 l
      | inr past ↦ omega (arith, get_or_past xs k 0 past)
    ]

-- what a test lets through is no more than the whole
let_through : (t : Bool) (n most : ℕ) → n ≤ most → cond t n 0 ≤ most
let_through true n most h = h
let_through false n most h = omega arith

fixed_drawn-small : (plant : Plant) (utility period : ℕ) (slot : ℕ × ℕ) → Sound plant → IsSlotOf plant slot → fixed_drawn plant utility period slot ≤ 8000000
unfolding fixed_drawn drawn
fixed_drawn-small plant utility period slot sound is =
    let k = period - slot.1 in
    let draws = (task_at plant (run_at plant slot.0).task).draws in
    let fine = sound.tasks (run_at plant slot.0).task no_task (sound.runs slot.0 no_run is.run).task in
    let sum = sum_by-le (drawn_in utility 0 k) 1000000 draws
    (λ j d l. let_through (eqb (get_or draws j d).utility utility) (get_or (get_or draws j d).fixed k 0 + 0 * get_or (get_or draws j d).each k 0) 1000000
    (omega (arith, at_small (get_or draws j d).fixed 1000000 k (fine.draw j d l).fixed_small))) in
    let_through (is_running plant period slot) (sum_by (drawn_in utility 0 k) draws) 8000000 (omega (arith, sum, fine.draws))

each_drawn-small : (plant : Plant) (utility period : ℕ) (slot : ℕ × ℕ) → Sound plant → IsSlotOf plant slot → each_drawn plant utility period slot ≤ 8000000
unfolding each_drawn
each_drawn-small plant utility period slot sound is =
    let k = period - slot.1 in
    let draws = (task_at plant (run_at plant slot.0).task).draws in
    let fine = sound.tasks (run_at plant slot.0).task no_task (sound.runs slot.0 no_run is.run).task in
    let sum = sum_by-le (each_in utility k) 1000000 draws
    (λ j d l. let_through (eqb (get_or draws j d).utility utility) (get_or (get_or draws j d).each k 0) 1000000
    (at_small (get_or draws j d).each 1000000 k (fine.draw j d l).each_small)) in
    let_through (is_running plant period slot) (sum_by (each_in utility k) draws) 8000000 (omega (arith, sum, fine.draws))

load_parts-small : (plant : Plant) (utility period : ℕ) → Sound plant → All (IsPartWithin 10000000) (map (load_parts plant utility period) (slots plant))
unfolding load_parts
load_parts-small plant utility period sound =
    All-map (IsPartWithin 10000000) (load_parts plant utility period) (slots plant)
    (λ k d l.
    let is = slots-are plant k d l in
    let fixed = fixed_drawn-small plant utility period (get_or (slots plant) k d) sound is in
    let each = each_drawn-small plant utility period (get_or (slots plant) k d) sound is in
    record { fixed = omega arith; per = omega arith })

load_row-bounded : (plant : Plant) (utility period : ℕ) → Sound plant → utility < length plant.utilities → IsBoundedRow (length (slots plant)) (load_row plant utility period)
unfolding load_row
load_row-bounded plant utility period sound l =
    let parts = load_parts plant utility period in
    let limit_small = at_small (utility_at plant utility).limits 1000000000 period (sound.utilities utility no_utility l).limit in
    record {
      entries = subst (λ (n : ℕ). AreBounded n 10000000 (entries_from 0 (map parts (slots plant)))) (length-map (slots plant) parts) (AreBounded-from 10000000 (map parts (slots plant)) (load_parts-small plant utility period sound));
      limit = omega arith;
    }

-- the load rows keep the bounds of rows
pub load_rows-bounded : (plant : Plant) → Sound plant → All (IsBoundedRow (length (slots plant))) (load_rows plant)
unfolding load_rows
load_rows-bounded plant sound =
    All-row_table (IsBoundedRow (length (slots plant))) (load_row plant) (λ utility. plant.periods) (length plant.utilities) (λ utility period l m. load_row-bounded plant utility period sound l)

-- how many load rows there are at most
pub length-load_rows : (plant : Plant) → Sound plant → length (load_rows plant) ≤ 21504
unfolding load_rows
length-load_rows plant sound =
    let most = length-row_table (load_row plant) (λ utility. plant.periods) 336 (length plant.utilities) (λ i l. sound.counts.periods.1) in
    omega (arith, most, sound.counts.utilities)
