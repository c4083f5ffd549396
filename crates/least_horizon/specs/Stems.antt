-- What the logs of a stem show.
use Rattle.std.specs.Prelude.{◌≡◌, ◌<◌, ◌≤◌, ℕ, List, Option, Some, None}
use Rattle.stn_model.specs.declared.plant.Plant.{Plant}
use Rattle.proof_log.specs.declared.claim.Claim.TheVariants.{Optimal, Infeasible, Between, Below}
use Rattle.log_lines.specs.declared.defect.Defect.{Defect}
use Rattle.valid_log.specs.declared.verdict.LogVerdict.{LogVerdict}
use Rattle.valid_log.specs.declared.verdict.LogVerdict.TheVariants as log
use Rattle.valid_log.specs.PlantLogs.{IsAnyChecked}
use Rattle.least_horizon.specs.declared.stem.StemVerdict.{StemVerdict}
use Rattle.least_horizon.specs.declared.stem.StemVerdict.TheVariants.{Yes, No}
use Rattle.shorter_plant.specs.PlantAt.{plant_at}

-- a valid log claims something else than that no plan is feasible: no line, and kind 19
abbrev pub other_claim : Defect
other_claim = record { line = 0; kind = 19 }

-- what speaks against a log that is to show that no plan is feasible: its first defect, or another claim
abbrev pub objection : LogVerdict → Option Defect
objection (log.Yes (Optimal earned point)) = Some other_claim
objection (log.Yes Infeasible) = None
objection (log.Yes (Between earned most point)) = Some other_claim
objection (log.Yes (Below most)) = Some other_claim
objection (log.No defect) = Some defect

-- the right verdict on a log of the plant, of any version, has this objection
pub record IsJudged (plant : Plant) (bytes : List ℕ) (found : Option Defect) : Type 0 where
  pub verdict : LogVerdict
  pub right : IsAnyChecked plant bytes verdict
  pub is : found ≡ objection verdict

-- nothing speaks against the logs of the horizons from 1 on that are shorter than this one
abbrev pub AreClear : Plant → (ℕ → List ℕ) → ℕ → Type 0
AreClear plant bytes horizon = (g : ℕ) → 1 ≤ g → g < horizon → IsJudged (plant_at plant g) (bytes g) None

-- The verdict on the logs of the horizons below a limit: yes where nothing speaks against any, and else what speaks against the
-- first log against which something does.
abbrev pub IsStemVerdict : Plant → (ℕ → List ℕ) → ℕ → StemVerdict → Type 0
IsStemVerdict plant bytes limit Yes = AreClear plant bytes limit
IsStemVerdict plant bytes limit (No horizon defect) =
    (1 ≤ horizon) × ((horizon < limit) × (AreClear plant bytes horizon × IsJudged (plant_at plant horizon) (bytes horizon) (Some defect)))
