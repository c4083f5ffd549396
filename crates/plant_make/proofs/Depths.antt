-- The document of a plant is not deep.
use Rattle.std.proofs.Common.{ℕ, ℤ, pos, ◌+◌, ◌≤◌, Bool, true, false, cond, eqb, List, [], ◌∷◌, length, map, Option, Some, None, option_map, arith}
use Rattle.std.specs.List.{AllByRecursion}
use Rattle.std.specs.Ordering.{int_eq}
use Rattle.toml.specs.Data.{Data, integer, depth, items_depth, members_depth}
use Rattle.toml.specs.View.{items_of}
use Rattle.stn_model.specs.declared.plant.Plant.{Plant}
use Rattle.stn_model.specs.declared.plant.Calendar.{Calendar}
use Rattle.stn_model.specs.declared.plant.State.{State}
use Rattle.stn_model.specs.declared.plant.Utility.{Utility}
use Rattle.stn_model.specs.declared.plant.StnUnit.{StnUnit}
use Rattle.stn_model.specs.declared.plant.Last.{Last}
use Rattle.stn_model.specs.declared.plant.Task.{Task}
use Rattle.stn_model.specs.declared.plant.Input.{Input}
use Rattle.stn_model.specs.declared.plant.Output.{Output}
use Rattle.stn_model.specs.declared.plant.Draw.{Draw}
use Rattle.stn_model.specs.declared.plant.Run.{Run}
use Rattle.stn_model.specs.declared.plant.Gap.{Gap}
use Rattle.stn_model.specs.declared.plant.Receipt.{Receipt}
use Rattle.stn_model.specs.declared.plant.Delivery.{Delivery}
use Rattle.stn_model.specs.declared.plant.Outage.{Outage}
use Rattle.plant_make.specs.Entries.{Entry, table_of, number, numbers, some_text, some_items}
use Rattle.plant_make.specs.Numbers.{lone, several}
use Rattle.plant_make.specs.Printed.{made_of, start_of, minutes_of, last_name, until_of, state_entries, utility_entries, unit_entries, input_entries, output_entries, draw_entries, task_entries, run_entries, gap_entries, receipt_entries, delivery_entries, outage_entries, plant_entries}
use Rattle.plant_make.proofs.Tables.{Shallow, held_depth, depth_of_entries}

items_low : (n : ℕ) (ds : List Data) → AllByRecursion (λ d. depth d ≤ n) ds → items_depth (items_of ds) ≤ n
items_low n [] low = omega arith
items_low n (d ∷ ds) low = omega (arith, low.0, items_low n ds low.1)

numbers_low : (ns : List ℕ) → AllByRecursion (λ d. depth d ≤ 0) (map number ns)
numbers_low [] = tt
numbers_low (n ∷ ns) = (omega arith, numbers_low ns)

list_low : (ns : List ℕ) → depth (numbers ns) ≤ 1
list_low ns = omega (arith, items_low 0 (map number ns) (numbers_low ns))

lone_low : (o : Option ℕ) → held_depth (option_map number o) ≤ 1
lone_low None = omega arith
lone_low (Some n) = omega arith

text_low : (n : ℕ) (text : List ℕ) → held_depth (some_text text) ≤ n
text_low n [] = omega arith
text_low n (byte ∷ text) = omega arith

several_low : (o : Option (List ℕ)) → held_depth (option_map numbers o) ≤ 1
several_low None = omega arith
several_low (Some ns) = list_low ns

rows_low : {X : Type 0} (made : X → Data) (n : ℕ) → ((x : X) → depth (made x) ≤ n) → (xs : List X) → AllByRecursion (λ d. depth d ≤ n) (map made xs)
rows_low made n low [] = tt
rows_low made n low (x ∷ xs) = (low x, rows_low made n low xs)

some_low : (n : ℕ) (ds : List Data) → AllByRecursion (λ d. depth d ≤ n) ds → held_depth (some_items ds) ≤ n + 1
some_low n [] low = omega arith
some_low n (d ∷ ds) low = omega (arith, low.0, items_low n ds low.1)

made_low : (n : ℕ) (entries : List Entry) → Shallow n entries → depth (made_of entries) ≤ n + 1
made_low n entries low = omega (arith, depth_of_entries n entries low)

zero_low : 0 ≤ 1
zero_low = omega arith

none_deep : 0 ≤ 0
none_deep = omega arith

-- a number that is there or not
maybe_low : (there : Bool) (x : ℤ) → held_depth (cond there (Some (integer x)) None) ≤ 1
maybe_low true x = omega arith
maybe_low false x = omega arith

state_low : (state : State) → depth (made_of (state_entries state)) ≤ 2
unfolding state_entries
state_low state = made_low 1 (state_entries state) (zero_low, (text_low 1 state.label, (zero_low, (lone_low (lone state.limits), (several_low (several state.limits), (zero_low, (zero_low, tt)))))))

utility_low : (utility : Utility) → depth (made_of (utility_entries utility)) ≤ 2
unfolding utility_entries
utility_low utility = made_low 1 (utility_entries utility) (zero_low, (text_low 1 utility.label, (lone_low (lone utility.limits), (several_low (several utility.limits), (maybe_low (eqb (length utility.rates) 0) utility.rate, (some_low 0 _ (rows_low integer 0 (λ x. none_deep) utility.rates), tt))))))

last_low : (plant : Plant) (last : Option Last) → held_depth (last_name plant last) ≤ 1
last_low plant None = omega arith
last_low plant (Some last) = omega arith

until_low : (last : Option Last) → held_depth (until_of last) ≤ 1
until_low None = omega arith
until_low (Some last) = by_test (int_eq last.until (pos 0))
  where
    by_test : (zero : Bool) → held_depth (cond zero None (Some (integer last.until))) ≤ 1
    by_test true = omega arith
    by_test false = omega arith

unit_low : (plant : Plant) (unit : StnUnit) → depth (made_of (unit_entries plant unit)) ≤ 2
unfolding unit_entries
unit_low plant unit = made_low 1 (unit_entries plant unit) (zero_low, (text_low 1 unit.label, (last_low plant unit.last, (until_low unit.last, tt))))

input_low : (plant : Plant) (quantum : ℕ) (input : Input) → depth (made_of (input_entries plant quantum input)) ≤ 2
unfolding input_entries
input_low plant quantum input = made_low 1 (input_entries plant quantum input) (zero_low, (zero_low, tt))

output_low : (plant : Plant) (quantum : ℕ) (output : Output) → depth (made_of (output_entries plant quantum output)) ≤ 2
unfolding output_entries
output_low plant quantum output = made_low 1 (output_entries plant quantum output) (zero_low, (zero_low, (zero_low, tt)))

draw_low : (plant : Plant) (draw : Draw) → depth (made_of (draw_entries plant draw)) ≤ 2
unfolding draw_entries
draw_low plant draw = made_low 1 (draw_entries plant draw) (zero_low, (list_low draw.fixed, (list_low draw.each, tt)))

run_low : (plant : Plant) (run : Run) → depth (made_of (run_entries plant run)) ≤ 2
unfolding run_entries
run_low plant run = made_low 1 (run_entries plant run) (zero_low, (zero_low, (zero_low, (zero_low, (zero_low, tt)))))

gap_low : (plant : Plant) (gap : Gap) → depth (made_of (gap_entries plant gap)) ≤ 2
unfolding gap_entries
gap_low plant gap = made_low 1 (gap_entries plant gap) (zero_low, (zero_low, (zero_low, (zero_low, (zero_low, tt)))))

receipt_low : (plant : Plant) (receipt : Receipt) → depth (made_of (receipt_entries plant receipt)) ≤ 2
unfolding receipt_entries
receipt_low plant receipt = made_low 1 (receipt_entries plant receipt) (zero_low, (zero_low, (zero_low, tt)))

delivery_low : (plant : Plant) (delivery : Delivery) → depth (made_of (delivery_entries plant delivery)) ≤ 2
unfolding delivery_entries
delivery_low plant delivery = made_low 1 (delivery_entries plant delivery) (zero_low, (zero_low, (zero_low, (zero_low, tt))))

outage_low : (plant : Plant) (outage : Outage) → depth (made_of (outage_entries plant outage)) ≤ 2
unfolding outage_entries
outage_low plant outage = made_low 1 (outage_entries plant outage) (zero_low, (zero_low, (zero_low, tt)))

task_low : (plant : Plant) (task : Task) → depth (made_of (task_entries plant task)) ≤ 4
unfolding task_entries
task_low plant task =
    made_low 3 (task_entries plant task) (
      omega arith,
      (
        text_low 3 task.label,
        (
          text_low 3 task.colour,
          (
            omega arith,
            (
              some_low 2 _ (rows_low _ 2 (input_low plant task.quantum) task.inputs),
              (some_low 2 _ (rows_low _ 2 (output_low plant task.quantum) task.outputs), (some_low 2 _ (rows_low _ 2 (draw_low plant) task.draws), tt)),
            ),
          ),
        ),
      ),
    )

-- two levels for small records, where there is room for four
four : (d : Data) → depth d ≤ 2 → depth d ≤ 4
four d low = omega arith

start_low : (calendar : Option Calendar) → held_depth (start_of calendar) ≤ 5
start_low None = omega arith
start_low (Some calendar) = omega arith

minutes_low : (calendar : Option Calendar) → held_depth (minutes_of calendar) ≤ 5
minutes_low None = omega arith
minutes_low (Some calendar) = omega arith

-- five levels below the top
pub document_low : (plant : Plant) → members_depth (table_of (plant_entries plant)) ≤ 5
unfolding plant_entries
document_low plant =
    depth_of_entries 5 (plant_entries plant) (
      omega arith,
      (
        omega arith,
        (
          start_low plant.calendar,
          (
            minutes_low plant.calendar,
            (
              some_low 4 _ (rows_low _ 4 (λ state. four (made_of (state_entries state)) (state_low state)) plant.states),
              (
                some_low 4 _ (rows_low _ 4 (λ utility. four (made_of (utility_entries utility)) (utility_low utility)) plant.utilities),
                (
                  some_low 4 _ (rows_low _ 4 (λ unit. four (made_of (unit_entries plant unit)) (unit_low plant unit)) plant.units),
                  (
                    some_low 4 _ (rows_low _ 4 (task_low plant) plant.tasks),
                    (
                      some_low 4 _ (rows_low _ 4 (λ run. four (made_of (run_entries plant run)) (run_low plant run)) plant.runs),
                      (
                        some_low 4 _ (rows_low _ 4 (λ gap. four (made_of (gap_entries plant gap)) (gap_low plant gap)) plant.gaps),
                        (
                          some_low 4 _ (rows_low _ 4 (λ receipt. four (made_of (receipt_entries plant receipt)) (receipt_low plant receipt)) plant.receipts),
                          (
                            some_low 4 _ (rows_low _ 4 (λ delivery. four (made_of (delivery_entries plant delivery)) (delivery_low plant delivery)) plant.deliveries),
                            (some_low 4 _ (rows_low _ 4 (λ outage. four (made_of (outage_entries plant outage)) (outage_low plant outage)) plant.outages), tt),
                          ),
                        ),
                      ),
                    ),
                  ),
                ),
              ),
            ),
          ),
        ),
      ),
    )
