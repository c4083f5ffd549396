-- What reading a plant file gives: the plant of its bytes, or the first fault.
use Rattle.std.specs.Prelude.{◌≡◌, ℕ, ◌<◌, nat_lt, Bool, true, false, length, List, Result, Ok, Err}
use Rattle.std.proofs.Common.{refl, arith}
use Rattle.std.proofs.lemmas.Bool.{lt-ltb}
use Rattle.stn_model.specs.declared.plant.Plant.{Plant}
use Rattle.text_words.specs.Faults.{fault_or}
use Rattle.plant_text.specs.declared.fault.PlantFault.{PlantFault}
use Rattle.plant_text.specs.declared.fault.PlantStop.{PlantStop}
use Rattle.plant_text.specs.declared.fault.PlantStop.TheVariants as stop
use Rattle.plant_text.specs.declared.fault.TableName.TheVariants as table
use Rattle.plant_text.specs.declared.fault.KeyName.TheVariants as key
use Rattle.plant_text.specs.Tests.{first_fault}
use Rattle.plant_text.specs.Document.{plant_tests, plant_of, top_of, is_third, max_bytes}

-- what the bytes of a plant file are read as
unfoldable pub reading : List ℕ → Result Plant PlantFault
reading bytes = fault_or (first_fault (plant_tests bytes)) (plant_of bytes)

-- the stop is want of memory, or the fault that reading gives
abbrev pub Fails : PlantStop → Result Plant PlantFault → Type 0
Fails stop.Memory read = Unit {0}
Fails (stop.Fault fault) read = read ≡ Err fault

-- what a function returned is what reading gives, unless memory ran out
abbrev pub ReadsPlant : Result Plant PlantStop → Result Plant PlantFault → Type 0
ReadsPlant (Ok plant) read = read ≡ Ok plant
ReadsPlant (Err e) read = Fails e read

-- the fault of a file that is too long
abbrev pub too_long : PlantFault
too_long = record { kind = 1; table = table.Top; item = 0; inner = 0; key = key.Whole }

-- such a length is above the limit of each version
long-whatever : (third : Bool) (n : ℕ) → 4194304 < n → nat_lt (max_bytes third) n ≡ true
long-whatever true n h = lt-ltb 4194304 n h
long-whatever false n h = lt-ltb 1048576 n (omega arith)

-- a file that is too long in each version has no other fault
pub reading-long : (bytes : List ℕ) → 4194304 < length bytes → reading bytes ≡ Err too_long
unfolding reading plant_tests first_fault
reading-long bytes h = rw (long-whatever (is_third (top_of bytes)) (length bytes) h) refl
