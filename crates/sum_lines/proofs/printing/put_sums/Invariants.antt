use Rattle.std.proofs.Common.{◌≡◌, ◌++◌, take}
use Rattle.sum_lines.specs.Head.{lines_of, lines_text}
use Rattle.sum_lines.proofs.printing.put_sums.Given as goal

abbrev pub invariant-loop-sum : goal.invariant-loop-sum
invariant-loop-sum l = l.text.items ≡ l.initial.text.items ++ lines_text (lines_of (take l.sum-index l.sums))
