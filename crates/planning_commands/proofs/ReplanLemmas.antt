-- Replanning: answers over the plans that keep the first starts of a plan.
use Rattle.std.proofs.Common.{ℕ, ℤ, List, Option, Some, None, Ok, Err, inl, inr}
use Rattle.std.specs.Prelude.{MatchOption, IfOk, Result}
use Rattle.std.proofs.lemmas.List.Sorted.{IsPermutation-refl}
use Rattle.stn_model.specs.declared.plant.Plant.{Plant}
use Rattle.stn_model.specs.declared.start.Start.{Start}
use Rattle.stn_model.specs.declared.answer.Answer.{Answer}
use Rattle.stn_model.specs.declared.answer.Answer.TheVariants.{Optimal, Infeasible, BudgetSpent}
use Rattle.stn_model.specs.declared.answer.Outcome.{Outcome}
use Rattle.stn_model.specs.Answers.{IsAnswerOf, IsOutcomeOf, NoneFound, EarnsBelow}
use Rattle.row_kit.specs.declared.program.Program.{Program}
use Rattle.row_set.specs.Parts.{IsAdmitted}
use Rattle.frozen_plan.specs.Frozen.{kept_starts}
use Rattle.frozen_plan.specs.Keeping.{Keeps, IsKeptPart}
use Rattle.plan_told.specs.Outcomes.{least_plan, whole_count}
use Rattle.plan_told.specs.Proofs.{HasProof}
use Rattle.command_replies.specs.declared.reply.Reply.{Reply}
use Rattle.command_replies.specs.Answers.{IsUnwritten}
use Rattle.answer_texts.specs.Changed.{counted_since}
use Rattle.answer_texts.specs.Planning.{Planned}
use Rattle.answer_texts.proofs.StatusLemmas.{solved-status}
use Rattle.planning_commands.specs.Replanning.{IsBegunOutcome, IsReplanOutcome, Replanned}
use Rattle.planning_commands.proofs.PlannedLemmas.{planned-as}

-- ---- the same plans

module _ (plant : Plant) (A B : List Start → Type 0) (to : (plan : List Start) → A plan → B plan) (back : (plan : List Start) → B plan → A plan) where
  -- what was found of the plans of one kind
  found-among : (least : List Start) (found : Option (List Start)) (earned cap : ℤ) → MatchOption found (NoneFound A least earned) (λ best. EarnsBelow plant A best earned cap)
      → MatchOption found (NoneFound B least earned) (λ best. EarnsBelow plant B best earned cap)
  found-among least None earned cap (zero, none) = (zero, λ is. none (back least is))
  found-among least (Some best) earned cap has = record { admitted = to best has.admitted; profit_is = has.profit_is; below = has.below }

  -- an answer that is right of the plans of one kind is right where those of the other are the same
  answer-among : (least : List Start) (count budget used : ℕ) (said : Answer) → IsAnswerOf plant A least count budget used said → IsAnswerOf plant B least count budget used said
  answer-among least count budget used (Optimal plan earned) (best, earns) = (record { admitted = to plan best.admitted; best = λ other is. best.best other (back other is) }, earns)
  answer-among least count budget used Infeasible none = λ plan is. none plan (back plan is)
  answer-among least count budget used (BudgetSpent plan earned cap) spent = record {
    exactly = spent.exactly;
    fewer = spent.fewer;
    found = found-among least plan earned cap spent.found;
    floor = λ is. spent.floor (back least is);
    capped = λ other is. spent.capped other (back other is);
  }

  -- and so is an outcome
  pub outcome-among : (least : List Start) (count budget : ℕ) (outcome : Outcome) → IsOutcomeOf plant A least count budget outcome → IsOutcomeOf plant B least count budget outcome
  outcome-among least count budget outcome is = record {
    answer = answer-among least count budget outcome.boxes outcome.answer is.answer;
    some = is.some;
    within = is.within;
    most = is.most;
  }

-- ---- over a program of the plans that keep the starts

-- an outcome that begins with the plan
replan-outcome : (plant : Plant) (period : ℕ) (start : List Start) (part : Program) (budget : ℕ) (outcome : Outcome) → IsKeptPart plant period (kept_starts period start) part
    → IsBegunOutcome plant part start budget outcome → IsReplanOutcome plant period start part budget outcome
replan-outcome plant period start part budget outcome is begun = record {
  right = outcome-among plant (IsAdmitted plant part) (Keeps plant period (kept_starts period start)) (λ plan. (is.exact plan).0) (λ plan. (is.exact plan).1) (least_plan plant part) (whole_count part) budget outcome begun.right;
  begun = λ feasible. begun.begun ((is.exact start).1 (feasible, IsPermutation-refl (kept_starts period start)));
}

-- ---- replies on kept starts

module _ {E : Type 0} (plant : Plant) (period : ℕ) (start : List Start) where
  -- of planning on
  pub replanned_open : (budget : ℕ) (log : Option (List ℕ)) (Unchanged : Type 0) (part : Program) (r : Result Reply E) → IsKeptPart plant period (kept_starts period start) part
      → IfOk r (λ reply. Planned plant (counted_since (Some period) start) (IsBegunOutcome plant part start budget) (HasProof plant part part.root 0 log) reply.status reply.text.items)
      → IfOk r (λ reply. Replanned budget plant period start log Unchanged reply.status reply.text.items)
  replanned_open budget log Unchanged part (Ok reply) is planned =
      inr (
        part,
        (
          is,
          planned-as plant (counted_since (Some period) start) (IsBegunOutcome plant part start budget) (IsReplanOutcome plant period start part budget) (HasProof plant part part.root 0 log) (HasProof plant part part.root 0 log) reply.status reply.text.items
              (λ outcome begun. replan-outcome plant period start part budget outcome is begun) (λ outcome has. has) planned,
        ),
      )
  replanned_open budget log Unchanged part (Err e) is planned = tt

-- ---- replies that leave the files

-- where the status is that of a refusal, no file has changed
pub unwritten-kept : (budget : ℕ) (p : Plant) (period : ℕ) (start : List Start) (log : Option (List ℕ)) (Unchanged : Type 0) (status : ℕ) (text : List ℕ) → Replanned budget p period start log Unchanged status text
    → IsUnwritten status → Unchanged
unwritten-kept budget p period start log Unchanged status text (inl broken) none = broken.1
unwritten-kept budget p period start log Unchanged status text (inr open_) none = absurd (solved-status open_.1.1.outcome.answer status open_.1.1.status_is none)
