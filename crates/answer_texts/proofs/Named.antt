-- A feasible plan names units and tasks of the plant.
use Rattle.std.proofs.Common.{ℕ, List, Some, None}
use Rattle.std.specs.Prelude.{All}
use Rattle.stn_model.specs.declared.plant.Plant.{Plant}
use Rattle.stn_model.specs.declared.start.Start.{Start}
use Rattle.stn_model.specs.declared.answer.Answer.{Answer}
use Rattle.stn_model.specs.declared.answer.Answer.TheVariants.{Optimal, Infeasible, BudgetSpent}
use Rattle.stn_model.specs.Sound.{Sound}
use Rattle.stn_model.specs.Feasible.{Feasible}
use Rattle.stn_model.specs.Answers.{IsAnswerOf}
use Rattle.stn_model.proofs.Fitting.{placed-Fits}
use Rattle.plan_text.specs.PlanLines.{IsNamed}
use Rattle.answer_texts.specs.Planning.{IsNamedIn}

-- each start of a feasible plan
pub named-Feasible : (plant : Plant) (plan : List Start) → Sound plant → Feasible plant plan → All (IsNamed plant) plan
named-Feasible plant plan sound feasible k d h =
    let at = placed-Fits plant _ sound (feasible.fits k d h) in record { unit = at.unit; task = at.task }

-- the plan of a right answer, if it has one
pub named-IsAnswer : (plant : Plant) (admits : List Start → Type 0) (least : List Start) (count budget used : ℕ) (answer : Answer) → Sound plant → ((plan : List Start) → admits plan → Feasible plant plan)
    → IsAnswerOf plant admits least count budget used answer → IsNamedIn plant answer
named-IsAnswer plant admits least count budget used (Optimal plan earned) sound are right = named-Feasible plant plan sound (are plan right.0.admitted)
named-IsAnswer plant admits least count budget used Infeasible sound are right = tt
named-IsAnswer plant admits least count budget used (BudgetSpent None earned cap) sound are right = tt
named-IsAnswer plant admits least count budget used (BudgetSpent (Some plan) earned cap) sound are right = named-Feasible plant plan sound (are plan right.found.admitted)
