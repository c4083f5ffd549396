use Rattle.std.proofs.Common.{◌≡◌, map}
use Rattle.std.specs.List.{range_with_len}
use Rattle.stn_model.specs.Stock.{stock}
use Rattle.gantt_report.proofs.figures.stocks_at.Given as goal

abbrev pub invariant-loop-state : goal.invariant-loop-state
invariant-loop-state l = l.stocks.items ≡ map (λ state. stock l.plant l.plan state l.time) (range_with_len 0 l.state)
