-- The answer of `check-least`: its text, and when it is right.
use Rattle.std.specs.Prelude.{◌≡◌, ◌+◌, ℕ, min, List, ◌++◌, codes, decimal, Option, IfSome}
use Rattle.stn_edge.specs.Files.{FileMap, file_of}
use Rattle.stn_model.specs.declared.plant.Plant.{Plant}
use Rattle.least_horizon.specs.declared.stem.StemVerdict.{StemVerdict}
use Rattle.least_horizon.specs.declared.stem.StemVerdict.TheVariants.{Yes, No}
use Rattle.proof_log.specs.LogNames.{log_name}
use Rattle.least_horizon.specs.Least.{NoneBelow}
use Rattle.least_horizon.specs.Stems.{IsStemVerdict}
use Rattle.answer_texts.specs.Lines.{numbered_defect}

-- the line on the logs of a stem: that no horizon below this one has a feasible plan, or what speaks against the first such log
unfoldable pub audit_text : ℕ → StemVerdict → List ℕ
audit_text horizon Yes = codes "yes none-below " ++ (decimal horizon ++ codes "\n")
audit_text horizon (No at defect) = numbered_defect at defect

-- the exit status of such a check
abbrev pub audit_status : StemVerdict → ℕ
audit_status Yes = 0
audit_status (No at defect) = 1

-- the first horizon whose log is not checked
abbrev pub checked_below : Plant → ℕ → ℕ
checked_below plant horizon = min horizon (plant.periods + 1)

-- The answer of `check-least`: a verdict, with its status and its text. Where the files are told, it is the right one on the
-- logs of the shorter horizons; after a yes no plan is feasible within any of them.
pub record Audited (files : Option FileMap) (horizon : ℕ) (stem : List ℕ) (plant : Plant) (status : ℕ) (text : List ℕ) : Type 0 where
  pub verdict : StemVerdict
  pub right : IfSome files (λ m. IsStemVerdict plant (λ g. file_of m (log_name stem g)) (checked_below plant horizon) verdict)
  pub says : verdict ≡ Yes → NoneBelow plant (checked_below plant horizon)
  pub status_is : status ≡ audit_status verdict
  pub text_is : text ≡ audit_text horizon verdict
