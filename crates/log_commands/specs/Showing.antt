-- What `plan` prints: the plan that a log claims.
use Rattle.std.specs.Prelude.{◌≡◌, ℕ, List, [], ◌++◌, codes, Ok}
use Rattle.stn_model.specs.declared.plant.Plant.{Plant}
use Rattle.stn_model.specs.declared.start.Start.{Start}
use Rattle.time_grid.specs.PlanPoint.{IsPlanOf}
use Rattle.plan_text.specs.PlanLines.{plan_lines}
use Rattle.plan_text.specs.PlanText.{plan_of_text}
use Rattle.proof_log.specs.declared.claim.Claim.{Claim}
use Rattle.proof_log.specs.declared.claim.Claim.TheVariants.{Optimal, Infeasible, Between, Below}
use Rattle.valid_log.specs.declared.verdict.LogVerdict.{LogVerdict}
use Rattle.valid_log.specs.declared.verdict.LogVerdict.TheVariants.{Yes, No}
use Rattle.answer_texts.specs.Checking.{claim_words, checked_text}

-- the plan of a claim: that of its point, by period, then by unit, then by task, and no starts where it has none
abbrev pub IsClaimedPlan : Plant → Claim → List Start → Type 0
IsClaimedPlan plant (Optimal earned point) plan = IsPlanOf plant point plan
IsClaimedPlan plant Infeasible plan = plan ≡ []
IsClaimedPlan plant (Between earned most point) plan = IsPlanOf plant point plan
IsClaimedPlan plant (Below most) plan = plan ≡ []

-- a comment with the words of a claim, those that `check` prints behind its yes
abbrev pub claim_comment : Claim → List ℕ
claim_comment claim = codes "# " ++ claim_words claim

-- the text on a claim: its words as a comment, and the lines of its plan, which read as plan text say this plan
pub record IsPlanText (plant : Plant) (claim : Claim) (text : List ℕ) : Type 0 where
  pub plan : List Start
  pub of_claim : IsClaimedPlan plant claim plan
  pub text_is : text ≡ claim_comment claim ++ plan_lines plant plan
  pub reads_back : plan_of_text plant text ≡ Ok plan

-- what is printed of a verdict: the plan of the claim, or the first defect
abbrev pub TellsPlan : Plant → LogVerdict → ℕ → List ℕ → Type 0
TellsPlan plant (Yes claim) status text = (status ≡ 0) × IsPlanText plant claim text
TellsPlan plant (No defect) status text = (status ≡ 1) × (text ≡ checked_text (No defect))
