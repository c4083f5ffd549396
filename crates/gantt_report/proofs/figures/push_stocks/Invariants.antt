use Rattle.std.proofs.Common.{◌≡◌, ◌++◌}
use Rattle.gantt_report.specs.Layout.{figures_lines}
use Rattle.gantt_report.specs.Report.{stocks_at}
use Rattle.gantt_report.proofs.figures.push_stocks.Given as goal

abbrev pub invariant-loop-time : goal.invariant-loop-time
invariant-loop-time l = l.text.items ≡ l.initial.text.items ++ figures_lines (stocks_at l.plant l.plan) l.time
