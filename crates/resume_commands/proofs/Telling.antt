-- The plan of a claim that holds, and its text.
use Rattle.std.proofs.Common.{◌≡◌, ◌∙◌, ℕ, ◌≤◌, ◌<◌, ◌^◌, List, length, None, Some, ap, arith}
use Rattle.std.specs.Prelude.{All, IfOk, Result, Ok, Err}
use Rattle.std.proofs.lemmas.List.Sorted.{All-permutation, length_permutation}
use Rattle.stn_model.specs.declared.plant.Plant.{Plant}
use Rattle.stn_model.specs.declared.start.Start.{Start}
use Rattle.stn_model.specs.declared.answer.Answer.{Answer}
use Rattle.stn_model.specs.Feasible.{Feasible}
use Rattle.stn_model.specs.Sound.{Sound}
use Rattle.time_grid.specs.PlanPoint.{IsPlanOf, point_starts}
use Rattle.time_grid.specs.Slots.{slots}
use Rattle.row_set.specs.Parts.{plan_of_values}
use Rattle.plan_text.specs.PlanText.{plan_of_text}
use Rattle.plan_text.specs.Published.{most_lines}
use Rattle.plan_text.specs.ReadsBack.{IsWritable}
use Rattle.proof_log.specs.declared.claim.Claim.{Claim}
use Rattle.command_replies.specs.declared.reply.Reply.{Reply}
use Rattle.answer_texts.specs.Planning.{IsInMoney, IsNamedIn, answer_text, printed_plan, status_of}
use Rattle.stn_model.specs.declared.answer.Answer.TheVariants.{Optimal, Infeasible, BudgetSpent}
use Rattle.answer_texts.proofs.ReadBack.{few-starts, reads-printed, writable}
use Rattle.answer_texts.proofs.StatusLemmas.{solved-status}
use Rattle.command_replies.specs.Answers.{IsUnwritten}
use Rattle.log_resuming.specs.declared.resumed.Resumed.{Resumed}
use Rattle.log_resuming.specs.declared.resumed.Resumed.TheVariants.{Done, No}
use Rattle.resume_commands.specs.Resuming.{TellsPlanOf, TellsClaim, TellsResumed}

-- the plan of a feasible point can be written, and is short
pub writable-if : {E : Type 0} (plant : Plant) (point : List ℕ) (r : Result (List Start) E) → Sound plant → Feasible plant (plan_of_values plant point) → IfOk r (IsPlanOf plant point)
    → IfOk r (λ plan. All (IsWritable plant) plan)
unfolding plan_of_values
writable-if plant point (Ok plan) sound feasible of = All-permutation (IsWritable plant) (point_starts plant (slots plant) point) plan of.starts (writable plant (plan_of_values plant point) sound feasible)
writable-if plant point (Err e) sound feasible of = tt

pub few-if : {E : Type 0} (plant : Plant) (point : List ℕ) (r : Result (List Start) E) → Sound plant → Feasible plant (plan_of_values plant point) → IfOk r (IsPlanOf plant point) → IfOk r (λ plan. length plan ≤ most_lines plant)
unfolding plan_of_values
few-if plant point (Ok plan) sound feasible of =
    let same = length_permutation (point_starts plant (slots plant) point) plan of.starts in
    let few = few-starts plant (plan_of_values plant point) sound feasible in
    omega (arith, same, few)
few-if plant point (Err e) sound feasible of = tt

-- starts that can be written name units and tasks of the plant
pub named-printed : (plant : Plant) (said : Answer) → All (IsWritable plant) (printed_plan said) → IsNamedIn plant said
named-printed plant (Optimal plan earned) can = λ k d within. (can k d within).named
named-printed plant Infeasible can = tt
named-printed plant (BudgetSpent None earned cap) can = tt
named-printed plant (BudgetSpent (Some plan) earned cap) can = λ k d within. (can k d within).named

-- the reply of a claim's answer tells the claim
pub tells-if : {E : Type 0} (plant : Plant) (claim : Claim) (boxes : ℕ) (said : Answer) (r : Result Reply E) → Sound plant → TellsPlanOf plant claim said → All (IsWritable plant) (printed_plan said) → length (printed_plan said) ≤ most_lines plant → IsInMoney said → boxes < 2 ^ 64
    → IfOk r (λ reply. (reply.status ≡ status_of said) × (reply.text.items ≡ answer_text plant boxes None said)) → IfOk r (λ reply. TellsClaim plant claim boxes reply.status reply.text.items)
tells-if plant claim boxes said (Ok reply) sound of can few small count is = record {
  said = said;
  of_claim = of;
  status_is = is.0;
  text_is = is.1;
  reads_back = ap (plan_of_text plant) is.1 ∙ reads-printed plant boxes None said sound few can small count tt;
}
tells-if plant claim boxes said (Err e) sound of can few small count is = tt

-- what is told is no refusal
pub told-status : (plant : Plant) (said : Resumed) (status : ℕ) (text : List ℕ) → TellsResumed plant said status text → IsUnwritten status → ⊥
told-status plant (Done claim boxes) status text is none = solved-status is.said status is.status_is none
told-status plant (No defect) status text is none = solved-status Infeasible status is.0 none
