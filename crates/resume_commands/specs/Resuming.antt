-- The answer of `resume`: its text, when it is right, and what it leaves.
use Rattle.std.specs.Prelude.{◌≡◌, ℕ, pos, List, Option, Some, None, Ok}
use Rattle.std.specs.Option.{option_map}
use Rattle.stn_edge.specs.Files.{FileMap}
use Rattle.stn_model.specs.declared.plant.Plant.{Plant}
use Rattle.stn_model.specs.declared.start.Start.{Start}
use Rattle.stn_model.specs.declared.answer.Answer.{Answer}
use Rattle.stn_model.specs.declared.answer.Answer.TheVariants as answer
use Rattle.plant_text.specs.Reading.{reading}
use Rattle.plan_text.specs.PlanText.{plan_of_text}
use Rattle.time_grid.specs.PlanPoint.{IsPlanOf}
use Rattle.log_nodes.specs.declared.pair.Share.{Share}
use Rattle.proof_log.specs.declared.claim.Claim.{Claim}
use Rattle.proof_log.specs.declared.claim.Claim.TheVariants.{Optimal, Infeasible, Between, Below}
use Rattle.valid_log.specs.declared.verdict.LogVerdict.TheVariants as verdict
use Rattle.log_resuming.specs.declared.resumed.Resumed.{Resumed}
use Rattle.log_resuming.specs.declared.resumed.Resumed.TheVariants.{Done, No}
use Rattle.log_resuming.specs.Resumed.{IsResumingIn, LeavesResumed, ResumedSays}
use Rattle.command_replies.specs.Sources.{IsReadOf}
use Rattle.answer_texts.specs.Checking.{checked_text}
use Rattle.answer_texts.specs.Planning.{answer_text, printed_plan, status_of}

-- an answer is that of a claim: its plan is that of the claim's point, with its profit and its cap
abbrev pub TellsPlanOf : Plant → Claim → Answer → Type 0
TellsPlanOf plant (Optimal profit point) said = (plan : List Start) × (IsPlanOf plant point plan × (said ≡ answer.Optimal plan profit))
TellsPlanOf plant Infeasible said = said ≡ answer.Infeasible
TellsPlanOf plant (Between profit most point) said = (plan : List Start) × (IsPlanOf plant point plan × (said ≡ answer.BudgetSpent (Some plan) profit most))
TellsPlanOf plant (Below most) said = said ≡ answer.BudgetSpent None (pos 0) most

-- the text of planning with the answer of a claim and so many boxes, which, read as plan text, says its plan
pub record TellsClaim (plant : Plant) (claim : Claim) (boxes status : ℕ) (text : List ℕ) : Type 0 where
  pub said : Answer
  pub of_claim : TellsPlanOf plant claim said
  pub status_is : status ≡ status_of said
  pub text_is : text ≡ answer_text plant boxes None said
  pub reads_back : plan_of_text plant text ≡ Ok (printed_plan said)

-- what is printed of what going on from a log comes to
abbrev pub TellsResumed : Plant → Resumed → ℕ → List ℕ → Type 0
TellsResumed plant (Done claim boxes) status text = TellsClaim plant claim boxes status text
TellsResumed plant (No defect) status text = (status ≡ 1) × (text ≡ checked_text (verdict.No defect))

-- a share is this number of so many
abbrev pub IsShare : Option (ℕ × ℕ) → Option Share → Type 0
IsShare words share = words ≡ option_map (λ (s : Share). (s.rest, s.shares)) share

-- The answer of `resume`: what is printed of what going on from the log comes to. What is claimed holds of all plans, and where the files
-- are told it is right of them.
pub record ResumeAnswered (old new : Option FileMap) (budget : ℕ) (words : Option (ℕ × ℕ)) (log out : List ℕ) (plant : Plant) (status : ℕ) (text : List ℕ) : Type 0 where
  pub share : Option Share
  pub share_is : IsShare words share
  pub said : Resumed
  pub right : IsResumingIn plant budget share log out old new said
  pub says : ResumedSays plant said
  pub tells : TellsResumed plant said status text

-- the plant in a file was read, and the files are as before, or its log was judged valid
pub record HoldsResumed (old new : Option FileMap) (name log : List ℕ) : Type 0 where
  pub plant : Plant
  pub read : IsReadOf reading old name (Ok plant)
  pub holds : LeavesResumed plant log old new
