use Rattle.std.proofs.Common.{◌≡◌, ◌++◌, take}
use Rattle.gantt_report.specs.Layout.{columns}
use Rattle.gantt_report.proofs.figures.push_columns.Given as goal

abbrev pub invariant-loop-figure : goal.invariant-loop-figure
invariant-loop-figure l = l.text.items ≡ l.initial.text.items ++ columns (take l.figure-index l.figures)
