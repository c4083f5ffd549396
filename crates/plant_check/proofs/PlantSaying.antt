-- A right verdict over the program of a plant, or of a part of its choices, is right of the plant.
use Rattle.std.proofs.Common.{ℕ, List}
use Rattle.std.specs.Prelude.{Option, Some, None, Result, Ok, Err, IfOk, IfSome}
use Rattle.stn_edge.specs.Files.{FileMap, file_of}
use Rattle.stn_model.specs.Points.{depth_limit}
use Rattle.stn_model.specs.declared.plant.Plant.{Plant}
use Rattle.stn_model.specs.Sound.{Sound}
use Rattle.row_kit.specs.declared.program.Program.{Program}
use Rattle.row_set.specs.PlantProgram.{IsMadeOf, IsProgramOf, plant_root}
use Rattle.valid_log.specs.declared.verdict.LogVerdict.{LogVerdict}
use Rattle.valid_log.specs.AnyVersion.{IsAnyVerdict}
use Rattle.valid_log.specs.Claims.{YesSays, YesSaysOf}
use Rattle.valid_log.specs.PlantLogs.{IsAnyChecked, IsAnyKeptChecked, IsAnyPartChecked}
use Rattle.valid_log.proofs.Saying.{of_plant}

-- what a check over the plant's program answers is right of the plant, where the files are told
pub any_checked : {E : Type 0} (plant : Plant) (program : Program) (files : Option FileMap) (name : List ℕ) (r : Result LogVerdict E) → Sound plant → IsMadeOf plant program → IsProgramOf plant program
    → IfOk r (λ verdict. IfSome files (λ m. IsAnyVerdict plant program (plant_root plant) (plant_root plant) (depth_limit plant) (file_of m name) verdict)) → IfOk r (YesSays plant)
    → IfOk r (λ verdict. IfSome files (λ m. IsAnyChecked plant (file_of m name) verdict))
any_checked plant program None name (Ok verdict) sound made means right says = tt
any_checked plant program (Some m) name (Ok verdict) sound made means right says =
    record { program = program; of_plant = of_plant plant program sound made means; right = right; holds = says }
any_checked plant program files name (Err e) sound made means right says = tt

-- what a check over a part's program answers is right of the part, where the files are told
pub part_checked : {E : Type 0} (plant : Plant) (part : Program) (depth : ℕ) (files : Option FileMap) (name : List ℕ) (r : Result LogVerdict E)
    → IfOk r (λ verdict. IfSome files (λ m. IsAnyVerdict plant part (plant_root plant) (plant_root plant) depth (file_of m name) verdict)) → IfOk r (YesSaysOf plant part)
    → IfOk r (λ verdict. IfSome files (λ m. IsAnyPartChecked plant part depth (file_of m name) verdict))
part_checked plant part depth None name (Ok verdict) right says = tt
part_checked plant part depth (Some m) name (Ok verdict) right says = record { right = right; holds = says }
part_checked plant part depth files name (Err e) right says = tt

-- the same where the head is judged over what kept starts leave
pub kept_checked : {E : Type 0} (plant : Plant) (part : Program) (depth : ℕ) (files : Option FileMap) (name : List ℕ) (r : Result LogVerdict E)
    → IfOk r (λ verdict. IfSome files (λ m. IsAnyVerdict plant part (plant_root plant) part.root depth (file_of m name) verdict)) → IfOk r (YesSaysOf plant part)
    → IfOk r (λ verdict. IfSome files (λ m. IsAnyKeptChecked plant part depth (file_of m name) verdict))
kept_checked plant part depth None name (Ok verdict) right says = tt
kept_checked plant part depth (Some m) name (Ok verdict) right says = record { right = right; holds = says }
kept_checked plant part depth files name (Err e) right says = tt
