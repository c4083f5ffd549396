-- When the verdict on a log of any version is right of a plant.
use Rattle.std.specs.Prelude.{ℕ, List}
use Rattle.stn_model.specs.Points.{depth_limit}
use Rattle.stn_model.specs.declared.plant.Plant.{Plant}
use Rattle.row_kit.specs.declared.program.Program.{Program}
use Rattle.row_set.specs.PlantProgram.{plant_root}
use Rattle.valid_log.specs.declared.verdict.LogVerdict.{LogVerdict}
use Rattle.valid_log.specs.Claims.{IsOfPlant, YesSays, YesSaysOf}
use Rattle.valid_log.specs.AnyVersion.{IsAnyVerdict}

-- the answer on a log of any version over a part of a plant's choices: its head is judged over what slots of the plant may have, whatever they may have in the part
abbrev pub IsPlantVerdict : Plant → Program → ℕ → List ℕ → LogVerdict → Type 0
IsPlantVerdict plant part depth log verdict = IsAnyVerdict plant part (plant_root plant) (plant_root plant) depth log verdict

-- the answer on a log of any version over the choices that kept starts leave: its head is judged over these choices in version 4, and over what slots of the plant may have in version 3
abbrev pub IsKeptVerdict : Plant → Program → ℕ → List ℕ → LogVerdict → Type 0
IsKeptVerdict plant part depth log verdict = IsAnyVerdict plant part (plant_root plant) part.root depth log verdict

-- The verdict on a log of any version is right of the plant: it is right over the plant's program, where at most as many splits may be
-- open as the plant may need, and the claim of a log that is valid holds of all plans.
pub record IsAnyChecked (plant : Plant) (log : List ℕ) (verdict : LogVerdict) : Type 0 where
  pub program : Program
  pub of_plant : IsOfPlant plant program
  pub right : IsPlantVerdict plant program (depth_limit plant) log verdict
  pub holds : YesSays plant verdict

-- The verdict on a log of any version is right of a part of the plant's choices: it is right over the part's program, where at most so
-- many splits may be open, and the claim of a log that is valid holds of all plans that the part admits.
pub record IsAnyPartChecked (plant : Plant) (part : Program) (depth : ℕ) (log : List ℕ) (verdict : LogVerdict) : Type 0 where
  pub right : IsPlantVerdict plant part depth log verdict
  pub holds : YesSaysOf plant part verdict

-- The verdict on a log of any version is right of the choices that kept starts leave: it is right over their program, where at most so
-- many splits may be open, and the claim of a log that is valid holds of all plans that they admit.
pub record IsAnyKeptChecked (plant : Plant) (part : Program) (depth : ℕ) (log : List ℕ) (verdict : LogVerdict) : Type 0 where
  pub right : IsKeptVerdict plant part depth log verdict
  pub holds : YesSaysOf plant part verdict
