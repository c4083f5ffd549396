-- Checking a replanning: answers over the plans that keep the first starts of a plan.
use Rattle.std.proofs.Common.{ℕ, List, Option, Some, None, Ok, Err, inr}
use Rattle.std.specs.Prelude.{IfSome, IfOk, Result}
use Rattle.stn_model.specs.Points.{depth_limit}
use Rattle.stn_model.specs.declared.plant.Plant.{Plant}
use Rattle.stn_model.specs.declared.start.Start.{Start}
use Rattle.stn_model.specs.Profit.{profit}
use Rattle.row_kit.specs.declared.program.Program.{Program}
use Rattle.row_set.specs.Parts.{IsAdmitted, plan_of_values}
use Rattle.proof_log.specs.declared.claim.Claim.{Claim}
use Rattle.plan_images.proofs.Telling.{same-plans}
use Rattle.valid_log.specs.declared.verdict.LogVerdict.{LogVerdict}
use Rattle.valid_log.specs.declared.verdict.LogVerdict.TheVariants.{Yes, No}
use Rattle.valid_log.specs.Verdict.{IfYes}
use Rattle.valid_log.specs.Claims.{SaysOf, YesSaysOf}
use Rattle.valid_log.specs.PlantLogs.{IsAnyKeptChecked, IsKeptVerdict}
use Rattle.frozen_plan.specs.Keeping.{Keeps, IsKeptPart}
use Rattle.command_replies.specs.declared.reply.Reply.{Reply}
use Rattle.answer_texts.specs.Checking.{Judged}
use Rattle.log_commands.specs.CheckingReplan.{CheckedOver, ReplanChecked}

-- ---- the same plans

module _ (plant : Plant) (A B : List Start → Type 0) (to : (plan : List Start) → A plan → B plan) (back : (plan : List Start) → B plan → A plan) where
  -- what a claim says of the plans of one kind it says of those of the other, where these are the same
  claim-among : (claim : Claim) → SaysOf plant A claim → SaysOf plant B claim
  claim-among claim says =
      same-plans A B (profit plant) (plan_of_values plant) claim to back says

  -- and that of a yes
  yes-among : (verdict : LogVerdict) → IfYes (SaysOf plant A) verdict → IfYes (SaysOf plant B) verdict
  yes-among (Yes claim) says = claim-among claim says
  yes-among (No defect) says = tt

-- ---- over a program of the plans that keep the starts

-- the verdict on a log that may be told
told-verdict : (plant : Plant) (part : Program) (log : Option (List ℕ)) (verdict : LogVerdict) → IfSome log (λ bytes. IsAnyKeptChecked plant part (depth_limit plant) bytes verdict) → IfSome log (λ bytes. IsKeptVerdict plant part (depth_limit plant) bytes verdict)
told-verdict plant part None verdict right = tt
told-verdict plant part (Some bytes) verdict right = right.right

-- an answer of checking
checked-over : (plant : Plant) (period : ℕ) (kept : List Start) (part : Program) (log : Option (List ℕ)) (status : ℕ) (text : List ℕ) → IsKeptPart plant period kept part
    → Judged (IsAnyKeptChecked plant part (depth_limit plant)) (YesSaysOf plant part) log status text → CheckedOver log plant period kept part status text
checked-over plant period kept part log status text is judged = record {
  verdict = judged.verdict;
  right = told-verdict plant part log judged.verdict judged.right;
  says = yes-among plant (IsAdmitted plant part) (Keeps plant period kept) (λ plan. (is.exact plan).0) (λ plan. (is.exact plan).1) judged.verdict judged.says;
  status_is = judged.status_is;
  text_is = judged.text_is;
}

module _ {E : Type 0} (plant : Plant) (period : ℕ) (kept : List Start) where
  -- a reply on kept starts
  pub checked_open : (log : Option (List ℕ)) (Unchanged : Type 0) (part : Program) (r : Result Reply E) → IsKeptPart plant period kept part
      → IfOk r (λ reply. Judged (IsAnyKeptChecked plant part (depth_limit plant)) (YesSaysOf plant part) log reply.status reply.text.items)
      → IfOk r (λ reply. ReplanChecked log plant period kept Unchanged reply.status reply.text.items)
  checked_open log Unchanged part (Ok reply) is judged = inr (part, (is, checked-over plant period kept part log reply.status reply.text.items is judged))
  checked_open log Unchanged part (Err e) is judged = tt
