use Rattle.std.proofs.Common.{◌≤◌, ◌<◌, ℕ}
use Rattle.stn_model.specs.Feasible.{StockKept}
use Rattle.plain_plan.proofs.feasible.all_stocks_kept.Given as goal

abbrev pub invariant-loop-state : goal.invariant-loop-state
invariant-loop-state l = (state time : ℕ) → state < l.state → time ≤ l.plant.periods → StockKept l.plant l.plan state time
