use Rattle.std.proofs.Common.{◌≡◌, map, pos}
use Rattle.std.specs.List.{range_with_len}
use Rattle.stn_model.specs.Load.{load}
use Rattle.gantt_report.proofs.figures.loads_in.Given as goal

abbrev pub invariant-loop-utility : goal.invariant-loop-utility
invariant-loop-utility l = l.loads.items ≡ map (λ utility. pos (load l.plant l.plan utility l.period)) (range_with_len 0 l.utility)
