-- The tests of a plant file: a list of conditions with their faults, in the order of reading.
use Rattle.std.specs.Prelude.{◌≡◌, ℕ, ◌+◌, Bool, List, [], ◌∷◌, ◌++◌, Option, Some, None, Result, Ok, Err, if◌then◌else◌}
use Rattle.plant_text.specs.declared.fault.PlantFault.{PlantFault}
use Rattle.plant_text.specs.declared.fault.PlantStop.{PlantStop}
use Rattle.plant_text.specs.declared.fault.PlantStop.TheVariants as stop

-- a condition, and the fault where it holds
abbrev pub Test : Type 0
Test = Bool × PlantFault

-- the fault of the first condition that holds, if there is one
unfoldable pub first_fault : List Test → Option PlantFault
first_fault [] = None
first_fault (test ∷ tests) = if test.0 then Some test.1 else first_fault tests

-- the stop is want of memory, or this fault
abbrev pub Stops : PlantStop → Option PlantFault → Type 0
Stops stop.Memory found = Unit {0}
Stops (stop.Fault fault) found = found ≡ Some fault

-- A function answers by the tests and the value: the value where no condition holds, and the first
-- fault where one does, unless memory ran out.
abbrev pub Gives : {Y : Type 0} → Result Y PlantStop → List Test → Y → Type 0
Gives (Ok x) tests value = (first_fault tests ≡ None) × (x ≡ value)
Gives (Err e) tests value = Stops e (first_fault tests)

-- the tests of some items, each with the values that were made of the items before it
abbrev pub rows_tests : {X Y : Type 0} → (List Y → X → List Test) → (X → Y) → List Y → List X → List Test
rows_tests tests value earlier [] = []
rows_tests tests value earlier (x ∷ xs) = tests earlier x ++ rows_tests tests value (earlier ++ value x ∷ []) xs

-- the tests of some items by their numbers, the first of which has this one
abbrev pub numbered_tests : {X : Type 0} → (ℕ → X → List Test) → ℕ → List X → List Test
numbered_tests tests number [] = []
numbered_tests tests number (x ∷ xs) = tests number x ++ numbered_tests tests (number + 1) xs
