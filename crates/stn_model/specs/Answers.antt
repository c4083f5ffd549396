-- What an answer of planning says of the plans that are admitted: all feasible ones, or those of a part of the plant's choices.
use Rattle.std.specs.Prelude.{◌≡◌, ℕ, ℤ, pos, ◌<◌, ◌≤◌, ◌≤ℤ◌, ◌<ℤ◌, MatchOption, Option, List, []}
use Rattle.stn_model.specs.declared.plant.Plant.{Plant}
use Rattle.stn_model.specs.declared.start.Start.{Start}
use Rattle.stn_model.specs.declared.answer.Answer.{Answer}
use Rattle.stn_model.specs.declared.answer.Answer.TheVariants.{Optimal, Infeasible, BudgetSpent}
use Rattle.stn_model.specs.declared.answer.Outcome.{Outcome}
use Rattle.stn_model.specs.Feasible.{Feasible}
use Rattle.stn_model.specs.Profit.{profit}
use Rattle.stn_model.specs.Best.{BestOf, NoneOf}
use Rattle.stn_model.specs.Points.{boxes}

-- the plan is admitted, earns this much, and less than the cap
pub record EarnsBelow (plant : Plant) (admits : List Start → Type 0) (plan : List Start) (earned cap : ℤ) : Type 0 where
  pub admitted : admits plan
  pub profit_is : profit plant plan ≡ earned
  pub below : earned <ℤ cap

-- no plan was found, and 0 stands for the profit: that is so only where the least plan is not admitted
abbrev pub NoneFound : (List Start → Type 0) → List Start → ℤ → Type 0
NoneFound admits least earned = (earned ≡ pos 0) × (¬ admits least)

-- A budget is spent: after exactly that many boxes, fewer than the whole count. The plan that was found is
-- admitted and earns less than the cap; the profit is at least that of the least plan, where this is admitted,
-- and no admitted plan earns more than the cap.
pub record IsSpent (plant : Plant) (admits : List Start → Type 0) (least : List Start) (count budget used : ℕ) (plan : Option (List Start)) (earned cap : ℤ) : Type 0 where
  pub exactly : used ≡ budget
  pub fewer : budget < count
  pub found : MatchOption plan (NoneFound admits least earned) (λ best. EarnsBelow plant admits best earned cap)
  pub floor : admits least → profit plant least ≤ℤ earned
  pub capped : (other : List Start) → admits other → profit plant other ≤ℤ cap

-- the answer is right of the admitted plans: the plan is a best one and earns the profit, no plan is
-- admitted, or the budget is spent
abbrev pub IsAnswerOf : Plant → (List Start → Type 0) → List Start → ℕ → ℕ → ℕ → Answer → Type 0
IsAnswerOf plant admits least count budget used (Optimal plan earned) = BestOf plant admits plan × (profit plant plan ≡ earned)
IsAnswerOf plant admits least count budget used Infeasible = NoneOf admits
IsAnswerOf plant admits least count budget used (BudgetSpent plan earned cap) = IsSpent plant admits least count budget used plan earned cap

-- The outcome of planning among the admitted plans is right: its answer, and a number of boxes within the
-- budget and the whole count.
pub record IsOutcomeOf (plant : Plant) (admits : List Start → Type 0) (least : List Start) (count budget : ℕ) (outcome : Outcome) : Type 0 where
  pub answer : IsAnswerOf plant admits least count budget outcome.boxes outcome.answer
  pub some : 0 < outcome.boxes
  pub within : outcome.boxes ≤ budget
  pub most : outcome.boxes ≤ count

-- The outcome of planning a plant is right: all feasible plans are admitted, the plan that does nothing is the
-- least, and the whole count is that of the plant's boxes.
abbrev pub IsOutcome : Plant → ℕ → Outcome → Type 0
IsOutcome plant budget outcome = IsOutcomeOf plant (Feasible plant) [] (boxes plant) budget outcome
