-- Tables that are built key by key.
use Rattle.std.proofs.Common.{◌≡◌, ℕ, cond, List, map, refl, ◌∙◌}
use Rattle.std.specs.List.{fold}
use Rattle.toml.specs.Data.{Data, string, Members}
use Rattle.stn_model.specs.declared.plant.Plant.{Plant}
use Rattle.stn_model.specs.declared.plant.State.{State}
use Rattle.stn_model.specs.declared.plant.Utility.{Utility}
use Rattle.stn_model.specs.declared.plant.StnUnit.{StnUnit}
use Rattle.stn_model.specs.declared.plant.Task.{Task}
use Rattle.stn_model.specs.declared.plant.Input.{Input}
use Rattle.stn_model.specs.declared.plant.Output.{Output}
use Rattle.stn_model.specs.declared.plant.Draw.{Draw}
use Rattle.stn_model.specs.declared.plant.Run.{Run}
use Rattle.stn_model.specs.declared.plant.Gap.{Gap}
use Rattle.stn_model.specs.declared.plant.Receipt.{Receipt}
use Rattle.stn_model.specs.declared.plant.Delivery.{Delivery}
use Rattle.stn_model.specs.declared.plant.Outage.{Outage}
use Rattle.plant_text.specs.declared.fault.KeyName.TheVariants as key
use Rattle.plant_text.specs.Words.{key_word}
use Rattle.plant_make.specs.Entries.{with_member, with_entry, number, some_text, some_items}
use Rattle.plant_make.specs.Printed.{made_of, start_of, minutes_of, state_entries, utility_entries, unit_entries, input_entries, output_entries, draw_entries, task_entries, run_entries, gap_entries, receipt_entries, delivery_entries, outage_entries, plant_entries}

-- the keys of a task
pub task_chain : (plant : Plant) (task : Task) (t0 t1 t2 t3 t4 t5 t6 t7 : Members) (name label colour : List ℕ) (quantum : Data)
    → t7 ≡ with_entry t6 (key.Draw, some_items (map (λ (draw : Draw). made_of (draw_entries plant draw)) task.draws))
    → t6 ≡ with_entry t5 (key.Output, some_items (map (λ (output : Output). made_of (output_entries plant task.quantum output)) task.outputs))
    → t5 ≡ with_entry t4 (key.Input, some_items (map (λ (input : Input). made_of (input_entries plant task.quantum input)) task.inputs))
    → t4 ≡ with_member (key_word key.Quantum) quantum t3 → t3 ≡ with_entry t2 (key.Colour, some_text colour)
    → t2 ≡ with_entry t1 (key.Label, some_text label) → t1 ≡ with_member (key_word key.Name) (string name) t0
    → name ≡ task.name → label ≡ task.label → colour ≡ task.colour → quantum ≡ number task.quantum
    → t7 ≡ fold with_entry t0 (task_entries plant task)
unfolding task_entries
task_chain plant task t0 t1 t2 t3 t4 t5 t6 t7 name label colour quantum e7 e6 e5 e4 e3 e2 e1 named labelled coloured sized =
    e7 ∙ rw (e6, e5, e4, e3, e2, e1, named, labelled, coloured, sized) refl

-- the keys at the top
pub plant_chain : (plant : Plant) (t0 t1 t2 t3 t4 t5 t6 t7 t8 t9 t10 t11 t12 : Members) (version periods : Data)
    → t12 ≡ with_entry t11 (key.Outage, some_items (map (λ (outage : Outage). made_of (outage_entries plant outage)) plant.outages))
    → t11 ≡ with_entry t10 (key.Delivery, some_items (map (λ (delivery : Delivery). made_of (delivery_entries plant delivery)) plant.deliveries))
    → t10 ≡ with_entry t9 (key.Receipt, some_items (map (λ (receipt : Receipt). made_of (receipt_entries plant receipt)) plant.receipts))
    → t9 ≡ with_entry t8 (key.Gap, some_items (map (λ (gap : Gap). made_of (gap_entries plant gap)) plant.gaps))
    → t8 ≡ with_entry t7 (key.Run, some_items (map (λ (run : Run). made_of (run_entries plant run)) plant.runs))
    → t7 ≡ with_entry t6 (key.Task, some_items (map (λ (task : Task). made_of (task_entries plant task)) plant.tasks))
    → t6 ≡ with_entry t5 (key.StnUnit, some_items (map (λ (unit : StnUnit). made_of (unit_entries plant unit)) plant.units))
    → t5 ≡ with_entry t4 (key.Utility, some_items (map (λ (utility : Utility). made_of (utility_entries utility)) plant.utilities))
    → t4 ≡ with_entry t3 (key.State, some_items (map (λ (state : State). made_of (state_entries state)) plant.states))
    → t3 ≡ with_entry (with_entry t2 (key.Start, start_of plant.calendar)) (key.Minutes, minutes_of plant.calendar)
    → t2 ≡ with_member (key_word key.Periods) periods t1 → t1 ≡ with_member (key_word key.Version) version t0
    → version ≡ number (cond plant.large 3 2) → periods ≡ number plant.periods
    → t12 ≡ fold with_entry t0 (plant_entries plant)
unfolding plant_entries
plant_chain plant t0 t1 t2 t3 t4 t5 t6 t7 t8 t9 t10 t11 t12 version periods e12 e11 e10 e9 e8 e7 e6 e5 e4 e3 e2 e1 second horizon =
    e12 ∙ rw (e11, e10, e9, e8, e7, e6, e5, e4, e3, e2, e1, second, horizon) refl
