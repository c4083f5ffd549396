-- What starts before a period break that no later start mends.
use Rattle.std.specs.Prelude.{ℕ, ◌<◌, ⊤, List}
use Rattle.stn_model.specs.declared.plant.Plant.{Plant}
use Rattle.stn_model.specs.declared.start.Start.{Start}
use Rattle.stn_model.specs.declared.violation.Violation.{Violation}
use Rattle.stn_model.specs.declared.violation.Violation.TheVariants.{Unfit, Busy, Early, Gap, StockLow, StockHigh, Load}
use Rattle.stn_model.specs.Feasible.{Feasible}
use Rattle.stn_model.specs.Violations.{Breaks, Before, order_of}
use Rattle.rolled_plant.specs.Kept.{joined}

-- no later start mends it: it is of starts, of a load, or of a stock before the period
abbrev pub IsUnmended : ℕ → Violation → Type 0
IsUnmended period (Unfit place) = ⊤
IsUnmended period (Busy first second) = ⊤
IsUnmended period (Early place) = ⊤
IsUnmended period (Gap first second) = ⊤
IsUnmended period (StockLow state time) = time < period
IsUnmended period (StockHigh state time) = time < period
IsUnmended period (Load utility time) = ⊤

-- no plan that has these starts before the period is feasible
abbrev pub IsLost : Plant → List Start → ℕ → Type 0
IsLost plant before period = (plan : List Start) → ¬ Feasible plant (joined before period plan)

-- the starts break this, which no later start mends, and nothing of that kind that comes before it: with them no plan is feasible
pub record BreaksBefore (plant : Plant) (before : List Start) (period : ℕ) (violation : Violation) : Type 0 where
  pub breaks : Breaks plant before violation
  pub unmended : IsUnmended period violation
  pub first : (other : Violation) → Breaks plant before other → IsUnmended period other → ¬ Before (order_of other) (order_of violation)
  pub lost : IsLost plant before period
