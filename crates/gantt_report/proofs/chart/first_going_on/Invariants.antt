use Rattle.std.proofs.Common.{◌≡◌, drop, find}
use Rattle.gantt_report.specs.Report.{goes_on}
use Rattle.gantt_report.proofs.chart.first_going_on.Given as goal

abbrev pub invariant-loop-start : goal.invariant-loop-start
invariant-loop-start l = find (goes_on l.plant l.unit l.period) l.plan ≡ find (goes_on l.plant l.unit l.period) (drop l.start-index l.plan)
