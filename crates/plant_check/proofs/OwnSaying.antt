-- A right verdict on a log of version 1 or 2 over the program of a plant is right of the plant.
use Rattle.std.proofs.Common.{◌≡◌, ℕ, List, subst}
use Rattle.std.specs.Prelude.{None, Result, Ok, Err, IfOk}
use Rattle.stn_model.specs.Points.{depth_limit}
use Rattle.stn_model.specs.declared.plant.Plant.{Plant}
use Rattle.stn_model.specs.Sound.{Sound}
use Rattle.row_kit.specs.declared.program.Program.{Program}
use Rattle.row_relax.specs.declared.rows.Rows.{Rows}
use Rattle.row_relax.specs.Choices.{plain}
use Rattle.row_relax.proofs.Choosing.{plain-rows}
use Rattle.row_set.specs.PlantProgram.{IsMadeOf, IsProgramOf}
use Rattle.valid_log.specs.declared.verdict.LogVerdict.{LogVerdict}
use Rattle.valid_log.specs.Verdict.{IsVerdict, YesHolds}
use Rattle.valid_log.proofs.PartSaying.{part_yes}
use Rattle.valid_log.proofs.Saying.{of_plant, whole-is_part, whole_says}
use Rattle.plant_check.specs.OwnLogs.{IsChecked}

-- a right verdict over the plant's program is right of the plant
pub checked : (plant : Plant) (program : Program) (log : List ℕ) (verdict : LogVerdict) → Sound plant → IsMadeOf plant program → IsProgramOf plant program → IsVerdict (plain program) (depth_limit plant) log verdict → YesHolds (plain program) verdict
    → IsChecked plant log verdict
checked plant program log verdict sound made means right holds = record {
  program = program;
  of_plant = of_plant plant program sound made means;
  right = right;
  holds = whole_says plant program verdict means (part_yes plant program verdict sound (whole-is_part plant program made means) holds);
}

-- what a check over the plant's rows answers is right of the plant
pub checked_if : {E : Type 0} (plant : Plant) (rows : Rows) (log : List ℕ) (r : Result LogVerdict E) → Sound plant → IsMadeOf plant rows.program → IsProgramOf plant rows.program → rows.choices ≡ None
    → IfOk r (IsVerdict rows (depth_limit plant) log) → IfOk r (YesHolds rows) → IfOk r (IsChecked plant log)
checked_if plant rows log (Ok verdict) sound made means none right holds =
    let same = plain-rows rows none in
    checked plant rows.program log verdict sound made means (subst (λ (rs : Rows). IsVerdict rs (depth_limit plant) log verdict) same right) (subst (λ (rs : Rows). YesHolds rs verdict) same holds)
checked_if plant rows log (Err e) sound made means none right holds = tt
