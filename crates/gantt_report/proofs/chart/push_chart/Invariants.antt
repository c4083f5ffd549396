use Rattle.std.proofs.Common.{◌≡◌, ◌++◌}
use Rattle.std.specs.List.{flat_map, range_with_len}
use Rattle.gantt_report.specs.Report.{unit_line}
use Rattle.gantt_report.proofs.chart.push_chart.Given as goal

abbrev pub invariant-loop-unit : goal.invariant-loop-unit
invariant-loop-unit l = l.text.items ≡ l.initial.text.items ++ flat_map (unit_line l.plant l.plan) (range_with_len 0 l.unit)
