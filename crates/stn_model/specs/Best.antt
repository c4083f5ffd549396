-- What a planner asks for: a plan that no other out-earns. All feasible plans are admitted, or some of them.
use Rattle.std.specs.Prelude.{◌≤ℤ◌, List}
use Rattle.stn_model.specs.declared.plant.Plant.{Plant}
use Rattle.stn_model.specs.declared.start.Start.{Start}
use Rattle.stn_model.specs.Feasible.{Feasible}
use Rattle.stn_model.specs.Profit.{profit}

-- the plan is admitted, and no admitted plan earns more
pub record BestOf (plant : Plant) (admits : List Start → Type 0) (plan : List Start) : Type 0 where
  pub admitted : admits plan
  pub best : (other : List Start) → admits other → profit plant other ≤ℤ profit plant plan

-- the plan is feasible, and no feasible plan earns more
abbrev pub Best : Plant → List Start → Type 0
Best plant plan = BestOf plant (Feasible plant) plan

-- no plan is admitted
abbrev pub NoneOf : (List Start → Type 0) → Type 0
NoneOf admits = (plan : List Start) → ¬ admits plan

-- no plan is feasible
abbrev pub NoPlan : Plant → Type 0
NoPlan plant = NoneOf (Feasible plant)
