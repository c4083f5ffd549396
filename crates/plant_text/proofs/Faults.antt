-- The first fault of tests that follow each other.
use Rattle.std.proofs.Common.{◌≡◌, true, false, List, [], ◌∷◌, ◌++◌, None, Result, Ok, Err, refl, ◌∙◌}
use Rattle.std.specs.Option.{option_or}
use Rattle.plant_text.specs.declared.fault.PlantStop.{PlantStop}
use Rattle.plant_text.specs.declared.fault.PlantStop.TheVariants as stop
use Rattle.plant_text.specs.Tests.{Test, first_fault, Stops, Gives}

-- the first fault of the front, else that of the rest
pub faults_append : (tests more : List Test) → first_fault (tests ++ more) ≡ option_or (first_fault tests) (first_fault more)
unfolding first_fault
faults_append [] more = refl
faults_append ((true, f) ∷ tests) more = refl
faults_append ((false, f) ∷ tests) more = faults_append tests more

-- tests that pass, before others that pass
pub passes : (tests more : List Test) → first_fault tests ≡ None → first_fault more ≡ None → first_fault (tests ++ more) ≡ None
passes tests more front rest = faults_append tests more ∙ rw front rest

-- no test at all
pub nothing : first_fault [] ≡ None
unfolding first_fault
nothing = refl

-- tests that pass, before one that does not
pub stops_after : (e : PlantStop) (tests more : List Test) → first_fault tests ≡ None → Stops e (first_fault more) → Stops e (first_fault (tests ++ more))
stops_after e tests more front rest = rw (faults_append tests more, front) rest

-- a test that does not pass, before others
pub stops_at : (e : PlantStop) (tests more : List Test) → Stops e (first_fault tests) → Stops e (first_fault (tests ++ more))
stops_at stop.Memory tests more front = tt
stops_at (stop.Fault f) tests more front = rw (faults_append tests more, front) refl

-- an answer after tests that pass
pub gives_after : {Y : Type 0} (answer : Result Y PlantStop) (tests more : List Test) (value : Y) → first_fault tests ≡ None → Gives answer more value → Gives answer (tests ++ more) value
gives_after (Ok x) tests more value front rest = (passes tests more front rest.0, rest.1)
gives_after (Err e) tests more value front rest = stops_after e tests more front rest
