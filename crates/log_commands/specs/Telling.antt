-- The answers of `check` and `plan`, and when they are right.
use Rattle.std.specs.Prelude.{◌≡◌, ℕ, List, Option, IfSome}
use Rattle.stn_model.specs.declared.plant.Plant.{Plant}
use Rattle.valid_log.specs.declared.verdict.LogVerdict.{LogVerdict}
use Rattle.valid_log.specs.Claims.{YesSays}
use Rattle.valid_log.specs.PlantLogs.{IsAnyChecked}
use Rattle.answer_texts.specs.Checking.{checked_status, checked_text}
use Rattle.command_words.specs.declared.uses.LogUse.{LogUse}
use Rattle.command_words.specs.declared.uses.LogUse.TheVariants.{Check, Plan}
use Rattle.log_commands.specs.Showing.{TellsPlan}

-- what is told of a verdict: its claim or its first defect, or the plan of the claim
abbrev pub Tells : LogUse → Plant → LogVerdict → ℕ → List ℕ → Type 0
Tells Check plant verdict status text = (status ≡ checked_status verdict) × (text ≡ checked_text verdict)
Tells Plan plant verdict status text = TellsPlan plant verdict status text

-- The answer on a log of any version: what is told of a verdict. What it says holds of all plans, and where the log's bytes are
-- told, it is the right one on them.
pub record LogTold (usage : LogUse) (log : Option (List ℕ)) (plant : Plant) (status : ℕ) (text : List ℕ) : Type 0 where
  pub verdict : LogVerdict
  pub right : IfSome log (λ bytes. IsAnyChecked plant bytes verdict)
  pub says : YesSays plant verdict
  pub tells : Tells usage plant verdict status text
