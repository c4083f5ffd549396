-- Planning on from a plan at hand: what its statuses say.
use Rattle.std.proofs.Common.{ℕ, List, Option, Some, None, inl, inr}
use Rattle.stn_model.specs.declared.plant.Plant.{Plant}
use Rattle.stn_model.specs.declared.start.Start.{Start}
use Rattle.command_replies.specs.Answers.{IsUnwritten}
use Rattle.answer_texts.proofs.StatusLemmas.{solved-status}
use Rattle.planning_commands.specs.PlanningOn.{PlannedOn}
use Rattle.planning_commands.proofs.ReplanLemmas.{unwritten-kept}

-- where the status is that of a refusal, no file has changed
pub unwritten-on : (kept : Option ℕ) (budget : ℕ) (p : Plant) (start : List Start) (log : Option (List ℕ)) (Unchanged : Type 0) (status : ℕ) (text : List ℕ) → PlannedOn kept budget p start log Unchanged status text
    → IsUnwritten status → Unchanged
unwritten-on (Some period) budget p start log Unchanged status text is none = unwritten-kept budget p period start log Unchanged status text is none
unwritten-on None budget p start log Unchanged status text (inl broken) none = broken.1
unwritten-on None budget p start log Unchanged status text (inr began) none = absurd (solved-status began.planned.outcome.answer status began.planned.status_is none)
