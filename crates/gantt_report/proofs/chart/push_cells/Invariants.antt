use Rattle.std.proofs.Common.{◌≡◌, ◌++◌}
use Rattle.std.specs.List.{flat_map, range_with_len}
use Rattle.gantt_report.specs.Report.{cell}
use Rattle.gantt_report.proofs.chart.push_cells.Given as goal

abbrev pub invariant-loop-period : goal.invariant-loop-period
invariant-loop-period l = l.text.items ≡ l.initial.text.items ++ flat_map (cell l.plant l.plan l.unit) (range_with_len 0 l.period)
