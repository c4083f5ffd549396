use Rattle.std.proofs.Common.{◌<◌, ℕ}
use Rattle.stn_model.specs.Feasible.{StockKept}
use Rattle.plain_plan.proofs.feasible.is_stock_kept.Given as goal

abbrev pub invariant-loop-time : goal.invariant-loop-time
invariant-loop-time l = (time : ℕ) → time < l.time → StockKept l.plant l.plan l.state time
