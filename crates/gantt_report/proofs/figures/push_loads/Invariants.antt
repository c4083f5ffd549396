use Rattle.std.proofs.Common.{◌≡◌, ◌++◌}
use Rattle.gantt_report.specs.Layout.{figures_lines}
use Rattle.gantt_report.specs.Report.{loads_in}
use Rattle.gantt_report.proofs.figures.push_loads.Given as goal

abbrev pub invariant-loop-period : goal.invariant-loop-period
invariant-loop-period l = l.text.items ≡ l.initial.text.items ++ figures_lines (loads_in l.plant l.plan) l.period
