-- Tables of tasks are read as the tasks.
use Rattle.std.proofs.Common.{◌≡◌, ℕ, ◌*◌, ◌≤◌, Bool, true, false, List, [], ◌∷◌, ◌++◌, map, length, Some, None, sum_by, eq-eqb, inl, inr, refl, sym, ap, ◌∙◌, subst}
use Rattle.std.specs.List.{AllByRecursion, AllZip}
use Rattle.std.proofs.lemmas.Bool.{cases_Bool}
use Rattle.std.proofs.lemmas.List.{length-map, map-id}
use Rattle.std.proofs.lemmas.List.Elements.{All-from_recursion, recursion_from_All}
use Rattle.toml.specs.Data.{Data, Members, string}
use Rattle.fraction.specs.declared.fraction_of.Fraction.{Fraction}
use Rattle.fraction.specs.Fractions.{IsProper, SumsToOne, sums_to_one}
use Rattle.fraction.proofs.Amounts.{parts_sum}
use Rattle.fraction.proofs.Written.{fraction_in-text}
use Rattle.stn_model.specs.declared.plant.Plant.{Plant}
use Rattle.stn_model.specs.declared.plant.Task.{Task}
use Rattle.stn_model.specs.declared.plant.Input.{Input}
use Rattle.stn_model.specs.declared.plant.Output.{Output}
use Rattle.stn_model.specs.declared.plant.Draw.{Draw}
use Rattle.stn_model.specs.Plant.{duration_of}
use Rattle.stn_model.specs.Sound.{SoundTask, SoundInput, SoundOutput, SoundDraw}
use Rattle.plant_text.specs.declared.fault.TableName.TheVariants as table
use Rattle.plant_text.specs.declared.fault.KeyName.TheVariants as key
use Rattle.plant_text.specs.declared.find.Key.{Key}
use Rattle.plant_text.specs.declared.scope.Owner.{Owner}
use Rattle.plant_text.specs.declared.tables.side.SidePart.{SidePart}
use Rattle.plant_text.specs.Words.{key_word}
use Rattle.plant_text.specs.Tests.{rows_tests}
use Rattle.plant_text.specs.Fields.{keys_of, held, needed, optional, since, items_at}
use Rattle.plant_text.specs.Scope.{Scope}
use Rattle.plant_text.specs.Tables.{is_output, side_fields, side_tests, side_of, output_of, input_of, whole_tests, share_tests, sides_tests, outputs_in, draw_tests, draw_of, owner_in, quantum_in, outputs_of, drawer_in, task_fields, task_tests, task_of}
use Rattle.plant_text.proofs.Faults.{passes, nothing}
use Rattle.plant_make.specs.Entries.{table_of, number, some_text, some_items}
use Rattle.plant_make.specs.Numbers.{part_of}
use Rattle.plant_make.specs.Printed.{made_of, state_name, part_text, input_entries, output_entries, draw_entries, task_entries}
use Rattle.plant_make.proofs.Parts.{IsPartOf, part_good, part_whole}
use Rattle.plant_make.proofs.Lists.{rows_read, at_next, all_so, map_same}
use Rattle.plant_make.proofs.Tables.{AreKnown, held_is, held_maybe, held_since, head_ok}
use Rattle.plant_make.proofs.Passing.{Pass, absent_ok, count_ok, name_ok, refers_ok, part_ok, tables_ok, maybe_tables_ok, items_back, some_there, one_more}
use Rattle.plant_make.proofs.Labels.{label_ok, colour_ok, text_back}
use Rattle.plant_make.proofs.Reading.{IsScopeOf, draw_ok}

-- an item of a side: its tests, what it is read as, and that its amount is its part of the quantum
record IsSide (scope : Scope) (output : Bool) (quantum : ℕ) (d : Data) (side : SidePart) (amount : ℕ) : Type 0 where
  pass : (owner : Owner) (place : ℕ) → is_output owner.table ≡ output → Pass (side_tests scope owner place d)
  read : side_of scope output d ≡ side
  part : IsPartOf quantum amount side.part

abbrev input_side : ℕ → Input → SidePart
input_side quantum input = record { state = input.state; part = part_of quantum input.amount; delay = 0 }

abbrev output_side : ℕ → Output → SidePart
output_side quantum output = record { state = output.state; part = part_of quantum output.amount; delay = output.delay }

input_is : (scope : Scope) (plant : Plant) (quantum : ℕ) (input : Input) → IsScopeOf plant scope → 1 ≤ quantum → SoundInput plant quantum input
    → IsSide scope false quantum (made_of (input_entries plant quantum input)) (input_side quantum input) input.amount
unfolding side_tests side_fields side_of input_entries key_word
input_is scope plant quantum input reads some sound =
    let es = input_entries plant quantum input in
    let inside = table_of es in
    let state : held inside (needed key.State) ≡ Some (state_name plant input.state) = held_is (needed key.State) es _ refl refl in
    let part : held inside (needed key.Part) ≡ Some (part_text quantum input.amount) = held_is (needed key.Part) es _ refl refl in
    let first = reads.states input.state sound.state in
    let good : IsPartOf quantum input.amount (part_of quantum input.amount) = part_good quantum input.amount some sound.part in
    let again = fraction_in-text (part_of quantum input.amount) good.proper in
    record {
      pass = λ owner place is.
          rw is (
          passes _ _ (head_ok _ _ es refl)
          (passes _ _ (refers_ok _ _ _ _ _ _ state first)
          (passes _ _ (part_ok _ _ _ _ _ part again)
          (passes _ _ (absent_ok _ _ None _ refl refl) nothing)))
          );
      read = rw (state, part, first, again) refl;
      part = good;
    }

output_is : (scope : Scope) (plant : Plant) (quantum : ℕ) (output : Output) → IsScopeOf plant scope → 1 ≤ quantum → SoundOutput plant quantum output
    → IsSide scope true quantum (made_of (output_entries plant quantum output)) (output_side quantum output) output.amount
unfolding side_tests side_fields side_of output_entries key_word
output_is scope plant quantum output reads some sound =
    let es = output_entries plant quantum output in
    let inside = table_of es in
    let delay_key : Key = record { name = key.Delay; known = true; required = true } in
    let state : held inside (needed key.State) ≡ Some (state_name plant output.state) = held_is (needed key.State) es _ refl refl in
    let part : held inside (needed key.Part) ≡ Some (part_text quantum output.amount) = held_is (needed key.Part) es _ refl refl in
    let delay : held inside delay_key ≡ Some (number output.delay) = held_is delay_key es _ refl refl in
    let first = reads.states output.state sound.state in
    let good : IsPartOf quantum output.amount (part_of quantum output.amount) = part_good quantum output.amount some sound.part in
    let again = fraction_in-text (part_of quantum output.amount) good.proper in
    record {
      pass = λ owner place is.
          rw is (
          passes _ _ (head_ok _ _ es refl)
          (passes _ _ (refers_ok _ _ _ _ _ _ state first)
          (passes _ _ (part_ok _ _ _ _ _ part again)
          (passes _ _ (count_ok _ _ _ _ _ _ delay sound.delay.0 sound.delay.1) nothing)))
          );
      read = rw (state, part, delay, first, again) refl;
      part = good;
    }

module _ {Z : Type 0} (scope : Scope) (owner : Owner) (quantum : ℕ) (made : Z → Data) (read : Z → SidePart) (amount : Z → ℕ) where
  abbrev AreSides : List Z → Type 0
  AreSides items = AllByRecursion (λ z. IsSide scope (is_output owner.table) quantum (made z) (read z) (amount z)) items

  sides_pass : (earlier : List SidePart) (items : List Z) → AreSides items
      → Pass (rows_tests (λ (before : List SidePart) (d : Data). side_tests scope owner (length before) d) (side_of scope (is_output owner.table)) earlier (map made items))
  sides_pass earlier [] are = nothing
  sides_pass earlier (z ∷ zs) are =
      passes (side_tests scope owner (length earlier) (made z)) _ (are.0.pass owner (length earlier) refl)
      (sides_pass (earlier ++ side_of scope (is_output owner.table) (made z) ∷ []) zs are.1)

  sides_read : (items : List Z) → AreSides items → map (side_of scope (is_output owner.table)) (map made items) ≡ map read items
  sides_read [] are = refl
  sides_read (z ∷ zs) are = rw (are.0.read, sides_read zs are.1) refl

  wholes_pass : (earlier : List Output) (items : List Z) → AreSides items → Pass (rows_tests (whole_tests owner quantum) (output_of quantum) earlier (map read items))
  wholes_pass earlier [] are = nothing
  wholes_pass earlier (z ∷ zs) are =
      let whole = (part_whole quantum (amount z) (read z).part are.0.part).0 in
      passes (whole_tests owner quantum earlier (read z)) _ (one_more _ _ [] (rw whole refl) nothing)
      (wholes_pass (earlier ++ output_of quantum (read z) ∷ []) zs are.1)

  amounts_back : (items : List Z) → AreSides items → map (output_of quantum) (map read items) ≡ map (λ (z : Z). record { state = (read z).state; amount = amount z; delay = (read z).delay }) items
  amounts_back [] are = refl
  amounts_back (z ∷ zs) are = rw ((part_whole quantum (amount z) (read z).part are.0.part).1, amounts_back zs are.1) refl

  propers : (items : List Z) → AreSides items → AllByRecursion IsProper (map (λ (side : SidePart). side.part) (map read items))
  propers [] are = tt
  propers (z ∷ zs) are = (are.0.part.proper, propers zs are.1)

  zipped : (items : List Z) → AreSides items → AllZip (λ (part : Fraction) (z : Z). amount z * part.under ≡ quantum * part.over) (map (λ (side : SidePart). side.part) (map read items)) items
  zipped [] are = tt
  zipped (z ∷ zs) are = (are.0.part.same, zipped zs are.1)

  parts_one : (items : List Z) → AreSides items → 1 ≤ quantum → sum_by amount items ≡ quantum → sums_to_one (map (λ (side : SidePart). side.part) (map read items)) ≡ true
  unfolding SumsToOne
  parts_one items are some sum =
      let parts = map (λ (side : SidePart). side.part) (map read items) in
      eq-eqb _ _ (parts_sum amount quantum parts items some (All-from_recursion IsProper parts (propers items are)) sum (zipped items are))

  -- the items of a side pass its tests
  sides_ok : (items : List Z) → AreSides items → 1 ≤ quantum → sum_by amount items ≡ quantum → Pass (sides_tests scope owner quantum (map made items))
  unfolding share_tests
  sides_ok items are some sum =
      passes (rows_tests (λ (before : List SidePart) (d : Data). side_tests scope owner (length before) d) (side_of scope (is_output owner.table)) [] (map made items)) _
      (sides_pass [] items are)
      (rw (sides_read items are) (one_more _ _ _ (rw (parts_one items are some sum) refl) (wholes_pass [] items are)))

  -- and are read with their amounts
  sides_back : (items : List Z) → AreSides items → outputs_in scope (is_output owner.table) quantum (map made items) ≡ map (λ (z : Z). record { state = (read z).state; amount = amount z; delay = (read z).delay }) items
  sides_back items are = ap (map (output_of quantum)) (sides_read items are) ∙ amounts_back items are

-- the inputs and the outputs of a task as they are printed
abbrev input_made : Plant → ℕ → Input → Data
input_made plant quantum input = made_of (input_entries plant quantum input)

abbrev output_made : Plant → ℕ → Output → Data
output_made plant quantum output = made_of (output_entries plant quantum output)

abbrev draw_made : Plant → Draw → Data
draw_made plant draw = made_of (draw_entries plant draw)

inputs_ok : (scope : Scope) (plant : Plant) (place : ℕ) (task : Task) → IsScopeOf plant scope → SoundTask plant task
    → Pass (sides_tests scope (owner_in table.Input place 0) task.quantum (map (input_made plant task.quantum) task.inputs))
    × (map input_of (outputs_in scope false task.quantum (map (input_made plant task.quantum) task.inputs)) ≡ task.inputs)
inputs_ok scope plant place task reads sound =
    let quantum = task.quantum in
    let amount = λ (input : Input). input.amount in
    let owner = owner_in table.Input place 0 in
    let are = all_so (SoundInput plant quantum) (λ (input : Input). IsSide scope false quantum (input_made plant quantum input) (input_side quantum input) input.amount) (λ input good. input_is scope plant quantum input reads sound.quantum.0 good) task.inputs (recursion_from_All (SoundInput plant quantum) task.inputs sound.input) in (
      sides_ok scope owner quantum (input_made plant quantum) (input_side quantum) amount task.inputs are sound.quantum.0 sound.taken,
      ap (map input_of) (sides_back scope owner quantum (input_made plant quantum) (input_side quantum) amount task.inputs are)
          ∙ map_same input_of (λ (input : Input). record { state = input.state; amount = input.amount; delay = 0 }) (λ (input : Input). input) (λ input. refl) task.inputs
          ∙ map-id task.inputs,
    )

outputs_ok : (scope : Scope) (plant : Plant) (place : ℕ) (task : Task) → IsScopeOf plant scope → SoundTask plant task
    → Pass (sides_tests scope (owner_in table.Output place 0) task.quantum (map (output_made plant task.quantum) task.outputs))
    × (outputs_in scope true task.quantum (map (output_made plant task.quantum) task.outputs) ≡ task.outputs)
outputs_ok scope plant place task reads sound =
    let quantum = task.quantum in
    let amount = λ (output : Output). output.amount in
    let owner = owner_in table.Output place 0 in
    let are = all_so (SoundOutput plant quantum) (λ (output : Output). IsSide scope true quantum (output_made plant quantum output) (output_side quantum output) output.amount) (λ output good. output_is scope plant quantum output reads sound.quantum.0 good) task.outputs (recursion_from_All (SoundOutput plant quantum) task.outputs sound.output) in (
      sides_ok scope owner quantum (output_made plant quantum) (output_side quantum) amount task.outputs are sound.quantum.0 sound.given,
      sides_back scope owner quantum (output_made plant quantum) (output_side quantum) amount task.outputs are ∙ map-id task.outputs,
    )

draws_ok : (scope : Scope) (plant : Plant) (owner : Owner) (task : Task) → IsScopeOf plant scope → SoundTask plant task → owner.duration ≡ duration_of task
    → Pass (rows_tests (λ (earlier : List Draw) (d : Data). draw_tests scope owner (length earlier) d) (draw_of scope) [] (map (draw_made plant) task.draws))
    × (map (draw_of scope) (map (draw_made plant) task.draws) ≡ task.draws)
draws_ok scope plant owner task reads sound long =
    rows_read (λ (earlier : List Draw) (d : Data). draw_tests scope owner (length earlier) d) (draw_of scope) (draw_made plant) task.draws
    (λ earlier draw next.
    draw_ok scope plant owner (length earlier) draw reads (subst (λ (duration : ℕ). SoundDraw plant duration draw) (sym long) (at_next (SoundDraw plant (duration_of task)) task.draws earlier draw sound.draw next)))

-- a task has no key that the version does not know
task_known : (scope : Scope) (place : ℕ) (inside : Members) (plant : Plant) (task : Task) → (scope.third ≡ false → (task.label ≡ []) × (task.colour ≡ [])) → AreKnown (keys_of (task_fields scope place inside)) (task_entries plant task)
unfolding task_fields task_entries key_word
task_known scope place inside plant task bare =
    elim (cases_Bool scope.third) [
      | inl e ↦ rw e refl
      | inr e ↦ rw (e, (bare e).0, (bare e).1) refl
    ]

pub task_ok : (scope : Scope) (plant : Plant) (place : ℕ) (task : Task) → IsScopeOf plant scope → SoundTask plant task → (plant.large ≡ false → (task.label ≡ []) × (task.colour ≡ [])) → scope.tasks task.name ≡ Some place
    → Pass (task_tests scope place (made_of (task_entries plant task))) × (task_of scope (made_of (task_entries plant task)) ≡ task)
unfolding task_tests task_fields task_of outputs_of task_entries duration_of key_word
task_ok scope plant place task reads sound bare declared =
    let es = task_entries plant task in
    let inside = table_of es in
    let in_ds = map (input_made plant task.quantum) task.inputs in
    let out_ds = map (output_made plant task.quantum) task.outputs in
    let draw_ds = map (draw_made plant) task.draws in
    let name : held inside (needed key.Name) ≡ Some (string task.name) = held_is (needed key.Name) es _ refl refl in
    let plain : scope.third ≡ false → (task.label ≡ []) × (task.colour ≡ []) = λ small. bare (sym reads.third ∙ small) in
    let label : held inside (since scope.third key.Label) ≡ some_text task.label = held_since scope.third key.Label es (some_text task.label) refl (λ small. rw (plain small).0 refl) in
    let colour : held inside (since scope.third key.Colour) ≡ some_text task.colour = held_since scope.third key.Colour es (some_text task.colour) refl (λ small. rw (plain small).1 refl) in
    let size : held inside (needed key.Quantum) ≡ Some (number task.quantum) = held_is (needed key.Quantum) es _ refl refl in
    let ins : held inside (needed key.Input) ≡ some_items in_ds = held_maybe (needed key.Input) es (some_items in_ds) refl refl in
    let outs : held inside (needed key.Output) ≡ some_items out_ds = held_maybe (needed key.Output) es (some_items out_ds) refl refl in
    let drawn : held inside (optional key.Draw) ≡ some_items draw_ds = held_maybe (optional key.Draw) es (some_items draw_ds) refl refl in
    let quantum : quantum_in inside ≡ task.quantum = rw size refl in
    let in_items : items_at inside (needed key.Input) ≡ in_ds = items_back in_ds _ ins in
    let out_items : items_at inside (needed key.Output) ≡ out_ds = items_back out_ds _ outs in
    let draw_items : items_at inside (optional key.Draw) ≡ draw_ds = items_back draw_ds _ drawn in
    let taken = inputs_ok scope plant place task reads sound in
    let given = outputs_ok scope plant place task reads sound in
    let out_back : outputs_of scope inside ≡ task.outputs = rw (quantum, out_items) given.1 in
    let draws = draws_ok scope plant (drawer_in scope place inside) task reads sound (rw out_back refl) in
    let ins_few : length in_ds ≤ 8 = rw (length-map task.inputs (input_made plant task.quantum)) sound.inputs.1 in
    let ins_some : 1 ≤ length in_ds = rw (length-map task.inputs (input_made plant task.quantum)) sound.inputs.0 in
    let outs_few : length out_ds ≤ 8 = rw (length-map task.outputs (output_made plant task.quantum)) sound.outputs.1 in
    let outs_some : 1 ≤ length out_ds = rw (length-map task.outputs (output_made plant task.quantum)) sound.outputs.0 in
    let draws_few : length draw_ds ≤ 8 = rw (length-map task.draws (draw_made plant)) sound.draws in (
      passes _ _ (head_ok _ _ es (task_known scope place inside plant task plain))
          (passes _ _ (name_ok _ _ _ _ _ _ name sound.name declared)
          (passes _ _ (label_ok _ (since scope.third key.Label) task.label _ label refl sound.label)
          (passes _ _ (colour_ok _ (since scope.third key.Colour) task.colour _ colour refl sound.colour)
          (passes _ _ (count_ok _ _ _ _ _ _ size sound.quantum.0 sound.quantum.1)
          (passes _ _ (tables_ok _ _ _ _ in_ds _ (ins ∙ some_there in_ds ins_some) ins_few (rw quantum taken.0))
          (passes _ _ (tables_ok _ _ _ _ out_ds _ (outs ∙ some_there out_ds outs_some) outs_few (rw quantum given.0))
          (passes _ _ (maybe_tables_ok _ _ _ _ draw_ds _ drawn refl draws_few draws.0) nothing))))))),
      rw (name, text_back task.label _ label, text_back task.colour _ colour, quantum, in_items, out_items, draw_items, taken.1, given.1, draws.1) refl,
    )
