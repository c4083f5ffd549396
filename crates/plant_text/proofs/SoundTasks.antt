-- Tasks whose tests pass are sound.
use Rattle.std.proofs.Common.{◌≡◌, ℕ, ◌+◌, ◌*◌, ◌%◌, ◌<◌, ◌≤◌, Bool, true, false, List, [], ◌∷◌, ◌++◌, map, length, All, Option, Some, None, option_map, unwrap_or, sum_by, refl, arith, div-add-mod'}
use Rattle.std.specs.List.{AllByRecursion, AllZip}
use Rattle.std.proofs.lemmas.Bool.{eqb-true, ltb-false}
use Rattle.std.proofs.lemmas.List.{length-map}
use Rattle.std.proofs.lemmas.Simd.{map-map}
use Rattle.std.proofs.lemmas.List.Elements.{All-from_recursion, All-map}
use Rattle.toml.specs.Data.{Data}
use Rattle.fraction.specs.declared.fraction_of.Fraction.{Fraction}
use Rattle.fraction.specs.Fractions.{IsProper, SumsToOne, amount_in, sums_to_one}
use Rattle.fraction.proofs.Amounts.{amounts_sum}
use Rattle.stn_model.specs.declared.plant.Plant.{Plant}
use Rattle.stn_model.specs.declared.plant.Input.{Input}
use Rattle.stn_model.specs.declared.plant.Output.{Output}
use Rattle.stn_model.specs.Plant.{duration_of}
use Rattle.stn_model.specs.Sound.{Within, IsPart, SoundInput, SoundOutput, SoundDraw, SoundTask}
use Rattle.plant_text.specs.declared.fault.Place.{Place}
use Rattle.plant_text.specs.declared.fault.TableName.TheVariants as table
use Rattle.plant_text.specs.declared.find.Key.{Key}
use Rattle.plant_text.specs.declared.scope.Owner.{Owner}
use Rattle.plant_text.specs.declared.tables.side.SidePart.{SidePart}
use Rattle.plant_text.specs.Tests.{Test, rows_tests}
use Rattle.plant_text.specs.Fields.{count, tables, held, items_of, items_at, members_of, needed, optional, value_tests, kind_tests}
use Rattle.plant_text.specs.declared.fault.KeyName.TheVariants as key
use Rattle.plant_text.specs.Scope.{Scope}
use Rattle.plant_text.specs.Tables.{is_output, side_fields, side_tests, side_of, output_of, input_of, whole_tests, share_tests, sides_tests, draw_fields, draw_tests, draw_of, owner_in, quantum_in, outputs_of, drawer_in, task_fields, task_tests, task_of}
use Rattle.plant_text.proofs.Passed.{Pass, Below, first_pass, both_pass, count_needed, name_declared, label_sound, colour_sound, refers_below, numbers_needed, rows_all, not_false, absent, tested}
use Rattle.plant_text.proofs.Shares.{side_proper}
use Rattle.plant_text.proofs.Faults.{nothing}

-- an array of tables that passes is short, and its items pass
pub record AreTables (most : ℕ) (below : List Data → List Test) (ds : List Data) : Type 0 where
  pub few : length ds ≤ most
  pub pass : Pass (below ds)

pub tables_passes : (place : Place) (key : Key) (most : ℕ) (below : List Data → List Test) (o : Option Data) → Pass (below []) → Pass (value_tests place key (tables most below) o) → AreTables most below (unwrap_or (option_map items_of o) [])
unfolding value_tests kind_tests
tables_passes place key most below None empty e = record { few = omega arith; pass = empty }
tables_passes place key most below (Some d) empty e =
    let a = first_pass _ _ _ e in
    let b = first_pass _ _ _ a.1 in
    record { few = ltb-false _ _ b.0; pass = b.1 }

pub tables_needed : (place : Place) (key : Key) (most : ℕ) (below : List Data → List Test) (o : Option Data) → key.required ≡ true → Pass (value_tests place key (tables most below) o) → AreTables most below (unwrap_or (option_map items_of o) [])
unfolding value_tests kind_tests
tables_needed place key most below None required e = absurd (absent place key (tables most below) required e)
tables_needed place key most below (Some d) required e =
    let a = first_pass _ _ _ e in
    let b = first_pass _ _ _ a.1 in
    record { few = ltb-false _ _ b.0; pass = b.1 }

-- what is known of an item of a side
pub record GoodSide (bound : ℕ) (output : Bool) (side : SidePart) : Type 0 where
  pub state : side.state < bound
  pub proper : IsProper side.part
  pub delay : output ≡ true → Within 1 96 side.delay

side_good : (scope : Scope) (owner : Owner) (bound number : ℕ) (d : Data) → Below bound scope.states → Pass (side_tests scope owner number d) → GoodSide bound (is_output owner.table) (side_of scope (is_output owner.table) d)
unfolding side_tests side_fields side_of
side_good scope owner bound number d states e =
    let head = both_pass _ _ e in
    let state = both_pass _ _ head.1 in
    let part = both_pass _ _ state.1 in
    let fraction = tested _ _ _ _ part.0 in
    let place : Place = record { table = owner.table; item = owner.item; inner = number + 1 } in
    let key_is : Key = record { name = key.Delay; known = is_output owner.table; required = is_output owner.table } in
    let delay = both_pass (value_tests place key_is (count 1 96) (held (members_of d) key_is)) [] part.1 in
    record {
      state = refers_below _ _ _ _ _ refl states state.0;
      proper = side_proper scope (is_output owner.table) d;
      delay = λ output. count_needed place key_is 1 96 (held (members_of d) key_is) output delay.0;
    }

-- the amount of a side is its part of the quantum
abbrev IsShare : ℕ → SidePart → Type 0
IsShare quantum side = amount_in quantum side.part * side.part.under ≡ quantum * side.part.over

share_whole : (owner : Owner) (quantum : ℕ) (earlier : List Output) (side : SidePart) → Pass (whole_tests owner quantum earlier side) → IsShare quantum side
share_whole owner quantum earlier side e =
    let whole = first_pass _ _ _ e in
    let rest : (quantum * side.part.over) % side.part.under ≡ 0 = eqb-true _ _ (not_false _ whole.0) in
    omega (arith, rest, div-add-mod' (quantum * side.part.over) side.part.under)

shares_whole : (owner : Owner) (quantum : ℕ) (earlier : List Output) (sides : List SidePart) → Pass (rows_tests (whole_tests owner quantum) (output_of quantum) earlier sides) → AllByRecursion (IsShare quantum) sides
shares_whole owner quantum earlier [] e = tt
shares_whole owner quantum earlier (side ∷ sides) e =
    let both = both_pass (whole_tests owner quantum earlier side) (rows_tests (whole_tests owner quantum) (output_of quantum) (earlier ++ output_of quantum side ∷ []) sides) e in
    (share_whole owner quantum earlier side both.0, shares_whole owner quantum (earlier ++ output_of quantum side ∷ []) sides both.1)

module _ {X : Type 0} (see : SidePart → X) (amount : X → ℕ) (quantum : ℕ) (is : (side : SidePart) → amount (see side) ≡ amount_in quantum side.part) where
  zipped : (sides : List SidePart) → AllByRecursion (IsShare quantum) sides → AllZip (λ (part : Fraction) (x : X). amount x * part.under ≡ quantum * part.over) (map (λ side. side.part) sides) (map see sides)
  zipped [] e = tt
  zipped (side ∷ sides) e = (rw (is side) e.0, zipped sides e.1)

  -- the amounts of a side sum to the quantum
  side_sum : (sides : List SidePart) → All (λ (side : SidePart). IsProper side.part) sides → sums_to_one (map (λ side. side.part) sides) ≡ true → AllByRecursion (IsShare quantum) sides → sum_by amount (map see sides) ≡ quantum
  unfolding SumsToOne
  side_sum sides proper one whole =
      amounts_sum amount quantum (map (λ side. side.part) sides) (map see sides) (All-map IsProper (λ (side : SidePart). side.part) sides proper) (eqb-true _ _ one) (zipped sides whole)

-- what is known of a side of a task
pub record GoodSides (bound quantum : ℕ) (output : Bool) (sides : List SidePart) : Type 0 where
  pub good : AllByRecursion (GoodSide bound output) sides
  pub whole : AllByRecursion (IsShare quantum) sides
  pub one : sums_to_one (map (λ side. side.part) sides) ≡ true

sides_good : (scope : Scope) (owner : Owner) (bound quantum : ℕ) (ds : List Data) → Below bound scope.states → Pass (sides_tests scope owner quantum ds)
    → GoodSides bound quantum (is_output owner.table) (map (side_of scope (is_output owner.table)) ds)
unfolding share_tests
sides_good scope owner bound quantum ds states e =
    let tests = λ (earlier : List SidePart) (d : Data). side_tests scope owner (length earlier) d in
    let parts = both_pass (rows_tests tests (side_of scope (is_output owner.table)) [] ds) (share_tests owner quantum (map (side_of scope (is_output owner.table)) ds)) e in
    let sum = first_pass _ _ _ parts.1 in
    record {
      good = rows_all tests (side_of scope (is_output owner.table)) (GoodSide bound (is_output owner.table)) (λ earlier d h. side_good scope owner bound (length earlier) d states h) [] ds parts.0;
      whole = shares_whole owner quantum [] _ sum.1;
      one = not_false _ sum.0;
    }

all_proper : (bound : ℕ) (output : Bool) (sides : List SidePart) → AllByRecursion (GoodSide bound output) sides → AllByRecursion (λ (side : SidePart). IsProper side.part) sides
all_proper bound output [] e = tt
all_proper bound output (side ∷ sides) e = (e.0.proper, all_proper bound output sides e.1)

part_is : (bound quantum : ℕ) (output : Bool) (side : SidePart) → GoodSide bound output side → IsShare quantum side → IsPart quantum (amount_in quantum side.part)
part_is bound quantum output side good whole =
    (side.part.over, (side.part.under, ((good.proper.some, good.proper.most), (omega (arith, good.proper.some, good.proper.most), good.proper.small), whole)))

inputs_all : (plant : Plant) (quantum : ℕ) (output : Bool) (sides : List SidePart) → AllByRecursion (GoodSide (length plant.states) output) sides → AllByRecursion (IsShare quantum) sides
    → AllByRecursion (SoundInput plant quantum) (map (λ side. input_of (output_of quantum side)) sides)
inputs_all plant quantum output [] good whole = tt
inputs_all plant quantum output (side ∷ sides) good whole =
    (record { state = good.0.state; part = part_is _ quantum output side good.0 whole.0 }, inputs_all plant quantum output sides good.1 whole.1)

outputs_all : (plant : Plant) (quantum : ℕ) (sides : List SidePart) → AllByRecursion (GoodSide (length plant.states) true) sides → AllByRecursion (IsShare quantum) sides
    → AllByRecursion (SoundOutput plant quantum) (map (output_of quantum) sides)
outputs_all plant quantum [] good whole = tt
outputs_all plant quantum (side ∷ sides) good whole =
    (record { state = good.0.state; part = part_is _ quantum true side good.0 whole.0; delay = good.0.delay refl }, outputs_all plant quantum sides good.1 whole.1)

-- what sums to something is not empty
some_there : {X : Type 0} (amount : X → ℕ) (xs : List X) (quantum : ℕ) → sum_by amount xs ≡ quantum → 1 ≤ quantum → 1 ≤ length xs
some_there amount [] quantum sum some = omega (arith, sum)
some_there amount (x ∷ xs) quantum sum some = omega arith

draw_sound : (scope : Scope) (owner : Owner) (plant : Plant) (number : ℕ) (d : Data) → Below (length plant.utilities) scope.utilities → Pass (draw_tests scope owner number d) → SoundDraw plant owner.duration (draw_of scope d)
unfolding draw_tests draw_fields draw_of
draw_sound scope owner plant number d utilities e =
    let head = both_pass _ _ e in
    let utility = both_pass _ _ head.1 in
    let fixed = both_pass _ _ utility.1 in
    let each = both_pass _ _ fixed.1 in
    let fixed_are = numbers_needed _ _ _ _ _ _ refl fixed.0 in
    let each_are = numbers_needed _ _ _ _ _ _ refl each.0 in
    record {
      utility = refers_below _ _ _ _ _ refl utilities utility.0;
      fixed = fixed_are.many;
      each = each_are.many;
      fixed_small = All-from_recursion (λ n. n ≤ 1000000) _ fixed_are.most;
      each_small = All-from_recursion (λ n. n ≤ 1000000) _ each_are.most;
    }

pub task_sound : (scope : Scope) (plant : Plant) (number : ℕ) (d : Data) → Below (length plant.states) scope.states → Below (length plant.utilities) scope.utilities
    → Pass (task_tests scope number d) → SoundTask plant (task_of scope d)
unfolding task_tests task_fields task_of outputs_of duration_of
task_sound scope plant number d states utilities e =
    let inside = members_of d in
    let quantum = quantum_in inside in
    let head = both_pass _ _ e in
    let name = both_pass _ _ head.1 in
    let label = both_pass _ _ name.1 in
    let colour = both_pass _ _ label.1 in
    let size = both_pass _ _ colour.1 in
    let input = both_pass _ _ size.1 in
    let output = both_pass _ _ input.1 in
    let draw = both_pass _ _ output.1 in
    let small = count_needed _ _ _ _ _ refl size.0 in
    let ins = tables_needed _ _ _ _ _ refl input.0 in
    let outs = tables_needed _ _ _ _ _ refl output.0 in
    let drawn = tables_passes _ _ _ _ _ nothing draw.0 in
    let drawn_few : length (items_at inside (optional key.Draw)) ≤ 8 = drawn.few in
    let in_ds = items_at inside (needed key.Input) in
    let out_ds = items_at inside (needed key.Output) in
    let ins_few : length in_ds ≤ 8 = ins.few in
    let outs_few : length out_ds ≤ 8 = outs.few in
    let taken = sides_good scope (owner_in table.Input number 0) (length plant.states) quantum in_ds states ins.pass in
    let given = sides_good scope (owner_in table.Output number 0) (length plant.states) quantum out_ds states outs.pass in
    let in_sides = map (side_of scope false) in_ds in
    let out_sides = map (side_of scope true) out_ds in
    let inputs_are : map input_of (map (output_of quantum) in_sides) ≡ map (λ side. input_of (output_of quantum side)) in_sides = map-map input_of (output_of quantum) in_sides in
    let in_sum : sum_by (λ (input : Input). input.amount) (map (λ side. input_of (output_of quantum side)) in_sides) ≡ quantum =
    side_sum (λ side. input_of (output_of quantum side)) (λ (input : Input). input.amount) quantum (λ side. refl) in_sides (All-from_recursion (λ (side : SidePart). IsProper side.part) in_sides (all_proper _ _ in_sides taken.good)) taken.one taken.whole in
    let out_sum : sum_by (λ (output : Output). output.amount) (map (output_of quantum) out_sides) ≡ quantum =
    side_sum (output_of quantum) (λ (output : Output). output.amount) quantum (λ side. refl) out_sides (All-from_recursion (λ (side : SidePart). IsProper side.part) out_sides (all_proper _ _ out_sides given.good)) given.one given.whole in
    rw inputs_are
    record {
      name = (name_declared _ _ _ _ _ refl name.0).0;
      label = label_sound _ _ _ label.0;
      colour = colour_sound _ _ _ colour.0;
      quantum = small;
      inputs = (some_there (λ (input : Input). input.amount) (map (λ side. input_of (output_of quantum side)) in_sides) quantum in_sum small.0, omega (arith, length-map in_sides (λ side. input_of (output_of quantum side)), length-map in_ds (side_of scope false), ins_few));
      outputs = (some_there (λ (output : Output). output.amount) (map (output_of quantum) out_sides) quantum out_sum small.0, omega (arith, length-map out_sides (output_of quantum), length-map out_ds (side_of scope true), outs_few));
      draws = omega (arith, length-map (items_at inside (optional key.Draw)) (draw_of scope), drawn_few);
      input = All-from_recursion (SoundInput plant quantum) _ (inputs_all plant quantum false in_sides taken.good taken.whole);
      output = All-from_recursion (SoundOutput plant quantum) _ (outputs_all plant quantum out_sides given.good given.whole);
      draw = All-from_recursion (SoundDraw plant _) _ (rows_all _ (draw_of scope) (SoundDraw plant _) (λ earlier x h. draw_sound scope (drawer_in scope number inside) plant (length earlier) x utilities h) [] (items_at inside (optional key.Draw)) drawn.pass);
      taken = in_sum;
      given = out_sum;
    }
