use Rattle.std.proofs.Common.{◌≡◌, ◌++◌, take, map}
use Rattle.derivation_lines.specs.Tail.{group_line, lines_text}
use Rattle.derivation_lines.proofs.printing.put_groups.Given as goal

abbrev pub invariant-loop-group : goal.invariant-loop-group
invariant-loop-group l = l.text.items ≡ l.initial.text.items ++ lines_text (map group_line (take l.group-index l.groups))
