-- The least horizon within which a plan is feasible, and how it is found.
use Rattle.std.specs.Prelude.{◌≡◌, ◌<◌, ◌≤◌, ◌+◌, ℕ, ⊤, List, Option, Some, None, Result, Err}
use Rattle.stn_edge.specs.Count.{Rose}
use Rattle.stn_edge.specs.Files.{FileMap, OthersStay}
use Rattle.stn_edge.specs.declared.shelf.Shelf.{Ghosts}
use Rattle.stn_edge.specs.declared.stop.Stop.{Stop}
use Rattle.stn_edge.specs.declared.stop.Stop.TheVariants.{Failed}
use Rattle.stn_model.specs.declared.plant.Plant.{Plant}
use Rattle.stn_model.specs.declared.answer.Answer.{Answer}
use Rattle.stn_model.specs.declared.answer.Answer.TheVariants as answer
use Rattle.stn_model.specs.declared.answer.Outcome.{Outcome}
use Rattle.stn_model.specs.Answers.{IsOutcome}
use Rattle.stn_model.specs.Best.{NoPlan}
use Rattle.stn_model.specs.Feasible.{Feasible}
use Rattle.stn_model.specs.Profit.{profit}
use Rattle.stn_model.specs.Sound.{Within}
use Rattle.plan_told.specs.Proofs.{HasPlantProof, IsLeftOf}
use Rattle.least_horizon.specs.declared.answer.LeastAnswer.{LeastAnswer}
use Rattle.least_horizon.specs.declared.answer.LeastAnswer.TheVariants.{At, Nowhere, Open}
use Rattle.shorter_plant.specs.PlantAt.{plant_at}
use Rattle.proof_log.specs.LogNames.{log_name}
use Rattle.least_horizon.specs.LogNames.{logs_in, OthersStayBelow}

-- no plan is feasible within a horizon from 1 on that is shorter than this one
abbrev pub NoneBelow : Plant → ℕ → Type 0
NoneBelow plant horizon = (g : ℕ) → 1 ≤ g → g < horizon → NoPlan (plant_at plant g)

-- The answer is right of the plant. A plan that is answered is feasible within the horizon and earns the profit, and no plan is
-- feasible within a shorter one; or no plan is feasible within any horizon, or within any that is shorter than an open one.
abbrev pub IsRight : Plant → LeastAnswer → Type 0
IsRight plant (At horizon earned plan) =
    Within 1 plant.periods horizon × (NoneBelow plant horizon × (Feasible (plant_at plant horizon) plan × (profit (plant_at plant horizon) plan ≡ earned)))
IsRight plant Nowhere = NoneBelow plant (plant.periods + 1)
IsRight plant (Open horizon) = Within 1 plant.periods horizon × NoneBelow plant horizon

-- planning within a horizon came to this outcome, of which there is a proof; where bytes are told, they are the text of its log
pub record IsSolved (plant : Plant) (budget : ℕ) (logs : ℕ → Option (List ℕ)) (horizon : ℕ) (outcome : Outcome) : Type 0 where
  pub right : IsOutcome (plant_at plant horizon) budget outcome
  pub proof : HasPlantProof (plant_at plant horizon) (logs horizon) outcome

-- planning within each shorter horizon from 1 on came to an outcome in which no plan is feasible
abbrev pub AreInfeasible : Plant → ℕ → (ℕ → Option (List ℕ)) → ℕ → Type 0
AreInfeasible plant budget logs horizon =
    (g : ℕ) → 1 ≤ g → g < horizon → (outcome : Outcome) × ((outcome.answer ≡ answer.Infeasible) × IsSolved plant budget logs g outcome)

-- what planning within a horizon settles: the plan that was found, that the horizon is open, or nothing where no plan is feasible
abbrev pub settled_within : ℕ → Answer → Option LeastAnswer
settled_within horizon (answer.Optimal plan earned) = Some (At horizon earned plan)
settled_within horizon answer.Infeasible = None
settled_within horizon (answer.BudgetSpent (Some plan) earned cap) = Some (At horizon earned plan)
settled_within horizon (answer.BudgetSpent None earned cap) = Some (Open horizon)

-- planning within a horizon came to an outcome that settles this
pub record IsHorizonSettled (plant : Plant) (budget : ℕ) (logs : ℕ → Option (List ℕ)) (horizon : ℕ) (found : Option LeastAnswer) : Type 0 where
  pub outcome : Outcome
  pub is : found ≡ settled_within horizon outcome.answer
  pub solved : IsSolved plant budget logs horizon outcome

-- an answer that names a horizon is what planning within it settles
abbrev pub IsLast : Plant → ℕ → (ℕ → Option (List ℕ)) → LeastAnswer → Type 0
IsLast plant budget logs (At horizon earned plan) = IsHorizonSettled plant budget logs horizon (Some (At horizon earned plan))
IsLast plant budget logs Nowhere = ⊤
IsLast plant budget logs (Open horizon) = IsHorizonSettled plant budget logs horizon (Some (Open horizon))

-- the horizon up to which no plan is feasible: the one that is answered, or the one after the plant's last
abbrev pub reached : Plant → LeastAnswer → ℕ
reached plant (At horizon earned plan) = horizon
reached plant Nowhere = plant.periods + 1
reached plant (Open horizon) = horizon

-- the first horizon that was not tried
abbrev pub untried : Plant → LeastAnswer → ℕ
untried plant (At horizon earned plan) = horizon + 1
untried plant Nowhere = plant.periods + 1
untried plant (Open horizon) = horizon + 1

-- The answer is right, and so it was found: horizons were solved in their order, each but the last was found to have no
-- feasible plan, and where bytes are told for each, they are the logs of these outcomes.
pub record IsLeast (plant : Plant) (budget : ℕ) (logs : ℕ → Option (List ℕ)) (said : LeastAnswer) : Type 0 where
  pub right : IsRight plant said
  pub before : AreInfeasible plant budget logs (reached plant said)
  pub last : IsLast plant budget logs said

-- What is left where the solving of a horizon was stopped: the logs of shorter horizons are whole, the log of this one is as
-- solving leaves it, and every other file is as it was.
pub record IsStopped (plant : Plant) (budget : ℕ) (stem : List ℕ) (old new : Option FileMap) : Type 0 where
  pub horizon : ℕ
  pub within : Within 1 plant.periods horizon
  pub whole : AreInfeasible plant budget (logs_in stem new) horizon
  pub begun : Option FileMap
  pub kept : OthersStayBelow stem horizon old begun
  pub left : IsLeftOf (plant_at plant horizon) (log_name stem horizon) begun new
  pub others : OthersStay (log_name stem horizon) begun new

-- a call fails only where the count of failed writes rose
abbrev pub FailsWriting : {F X : Type 0} → Ghosts F → Result X Stop → F → F → Type 0
FailsWriting S result old new = result ≡ Err Failed → Rose (S.write_faults old) (S.write_faults new)
