-- When the verdict on a log that declares no sums is right of a plant.
use Rattle.std.specs.Prelude.{ℕ, List}
use Rattle.stn_model.specs.Points.{depth_limit}
use Rattle.stn_model.specs.declared.plant.Plant.{Plant}
use Rattle.row_kit.specs.declared.program.Program.{Program}
use Rattle.row_relax.specs.Choices.{plain}
use Rattle.valid_log.specs.declared.verdict.LogVerdict.{LogVerdict}
use Rattle.valid_log.specs.Verdict.{IsVerdict}
use Rattle.valid_log.specs.Claims.{IsOfPlant, YesSays}

-- The verdict on a log of version 1 or 2 is right of the plant: it is right over the plant's program, where at most as many splits may be
-- open as the plant may need, and the claim of a log that is valid holds of all plans.
pub record IsChecked (plant : Plant) (log : List ℕ) (verdict : LogVerdict) : Type 0 where
  pub program : Program
  pub of_plant : IsOfPlant plant program
  pub right : IsVerdict (plain program) (depth_limit plant) log verdict
  pub holds : YesSays plant verdict
