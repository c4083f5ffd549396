-- What is read of files, where the files may not be told.
use Rattle.std.proofs.Common.{◌≡◌, ℕ, ◌+◌, ◌<◌, List, length, Option, Some, None, Ok, Err, Bool, true, false, cond, nat_lt, refl, arith, replicate}
use Rattle.std.specs.Prelude.{IfSome, IfOk, Result}
use Rattle.std.proofs.lemmas.Bool.{lt-ltb}
use Rattle.std.proofs.lemmas.List.{length-replicate}
use Rattle.stn_edge.specs.Files.{FileMap, file_of}
use Rattle.plant_text.specs.Reading.{reading, too_long, reading-long}
use Rattle.stn_model.specs.declared.plant.Plant.{Plant}
use Rattle.plan_text.specs.PlanText.{plan_of_text}
use Rattle.plan_text.specs.declared.fault.PlanFault.{PlanFault}
use Rattle.plant_text.specs.declared.fault.PlantFault.{PlantFault}
use Rattle.command_replies.specs.declared.stopped.Stopped.{Stopped}
use Rattle.command_replies.specs.declared.stopped.Stopped.TheVariants.{Refused, ReadFault, WriteFault, Memory}
use Rattle.command_replies.specs.Sources.{IsReadOf, IsRefusedAs, Refuses, IfRefusal, IfRefused, plan_too_long}

-- what was read of the bytes of a file was read of the file
pub read_of : {X E : Type 0} (reading_of : List ℕ → Result X E) (files : Option FileMap) (name bytes : List ℕ) (r : Result X Stopped)
    → IfSome files (λ m. bytes ≡ file_of m name) → IfOk r (λ x. reading_of bytes ≡ Ok x) → IfOk r (λ x. IsReadOf reading_of files name (Ok x))
read_of reading_of files name bytes (Ok x) told is = record { bytes = bytes; told = told; is = is }
read_of reading_of files name bytes (Err stopped) told is = tt

-- the refusal of a file's bytes is one of the file
refusal_of : {X E : Type 0} (reading_of : List ℕ → Result X E) (IsRefusal : E → ℕ → List ℕ → Type 0) (files : Option FileMap) (name bytes : List ℕ) (stopped : Stopped)
    → IfSome files (λ m. bytes ≡ file_of m name) → IfRefusal stopped (IsRefusedAs reading_of IsRefusal bytes) → IfRefusal stopped (Refuses reading_of IsRefusal files name)
refusal_of reading_of IsRefusal files name bytes (Refused reply) told is =
    record { fault = is.fault; read = record { bytes = bytes; told = told; is = is.is }; refusal = is.refusal }
refusal_of reading_of IsRefusal files name bytes ReadFault told is = tt
refusal_of reading_of IsRefusal files name bytes WriteFault told is = tt
refusal_of reading_of IsRefusal files name bytes Memory told is = tt

-- the same of a result
pub refused_of : {X E : Type 0} (reading_of : List ℕ → Result X E) (IsRefusal : E → ℕ → List ℕ → Type 0) (files : Option FileMap) (name bytes : List ℕ) (r : Result X Stopped)
    → IfSome files (λ m. bytes ≡ file_of m name) → IfRefused r (IsRefusedAs reading_of IsRefusal bytes) → IfRefused r (Refuses reading_of IsRefusal files name)
refused_of reading_of IsRefusal files name bytes (Ok x) told is = tt
refused_of reading_of IsRefusal files name bytes (Err stopped) told is = refusal_of reading_of IsRefusal files name bytes stopped told is

-- bytes of every number
pub some_bytes : (n : ℕ) → (bytes : List ℕ) × (length bytes ≡ n)
some_bytes n = (replicate n 0, length-replicate n 0)

-- a file that is longer than a limit has a fault which all longer bytes have
too-long : {X E : Type 0} (reading_of : List ℕ → Result X E) (limit : ℕ) (fault : E) → ((bytes : List ℕ) → limit < length bytes → reading_of bytes ≡ Err fault)
    → (files : Option FileMap) (name : List ℕ) → IfSome files (λ m. limit < length (file_of m name)) → IsReadOf reading_of files name (Err fault)
too-long reading_of limit fault is None name long =
    let longer = some_bytes (limit + 1) in
    record { bytes = longer.0; told = tt; is = is longer.0 (let l = longer.1 in omega (arith, l)) }
too-long reading_of limit fault is (Some m) name long = record { bytes = file_of m name; told = refl; is = is (file_of m name) long }

-- the refusal of a file that is too long
too-long-refusal : {X E : Type 0} (reading_of : List ℕ → Result X E) (IsRefusal : E → ℕ → List ℕ → Type 0) (files : Option FileMap) (name : List ℕ) (fault : E) (stopped : Stopped)
    → IsReadOf reading_of files name (Err fault) → IfRefusal stopped (λ reply. IsRefusal fault reply.status reply.text.items) → IfRefusal stopped (Refuses reading_of IsRefusal files name)
too-long-refusal reading_of IsRefusal files name fault (Refused reply) read is = record { fault = fault; read = read; refusal = is }
too-long-refusal reading_of IsRefusal files name fault ReadFault read is = tt
too-long-refusal reading_of IsRefusal files name fault WriteFault read is = tt
too-long-refusal reading_of IsRefusal files name fault Memory read is = tt

-- of a plant file
pub long_plant : (IsRefusal : PlantFault → ℕ → List ℕ → Type 0) (files : Option FileMap) (name : List ℕ) (stopped : Stopped) → IfSome files (λ m. 4194304 < length (file_of m name))
    → IfRefusal stopped (λ reply. IsRefusal too_long reply.status reply.text.items) → IfRefusal stopped (Refuses reading IsRefusal files name)
long_plant IsRefusal files name stopped long is =
    too-long-refusal reading IsRefusal files name too_long stopped (too-long reading 4194304 too_long reading-long files name long) is

-- such a length is above the limit of each plant
long-whatever : (large : Bool) (n : ℕ) → 524288 < n → nat_lt (cond large 524288 262144) n ≡ true
long-whatever true n long = lt-ltb 524288 n long
long-whatever false n long = lt-ltb 262144 n (omega (arith, long))

-- a plan text that is too long for each plant has that fault
plan_of_text-long : (plant : Plant) (text : List ℕ) → 524288 < length text → plan_of_text plant text ≡ Err plan_too_long
unfolding plan_of_text
plan_of_text-long plant text long = let test = long-whatever plant.large (length text) long in rw test refl

-- of a plan file
pub long_plan : (plant : Plant) (IsRefusal : PlanFault → ℕ → List ℕ → Type 0) (files : Option FileMap) (name : List ℕ) (stopped : Stopped) → IfSome files (λ m. 524288 < length (file_of m name))
    → IfRefusal stopped (λ reply. IsRefusal plan_too_long reply.status reply.text.items) → IfRefusal stopped (Refuses (plan_of_text plant) IsRefusal files name)
long_plan plant IsRefusal files name stopped long is =
    too-long-refusal (plan_of_text plant) IsRefusal files name plan_too_long stopped (too-long (plan_of_text plant) 524288 plan_too_long (plan_of_text-long plant) files name long) is
