use Rattle.std.proofs.Common.{◌≡◌, ◌++◌, replicate}
use Rattle.gantt_report.proofs.layout.push_times.Given as goal

abbrev pub invariant-loop-turn : goal.invariant-loop-turn
invariant-loop-turn l = l.text.items ≡ l.initial.text.items ++ replicate l._turn l.byte
