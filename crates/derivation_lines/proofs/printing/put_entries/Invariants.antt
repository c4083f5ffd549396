use Rattle.std.proofs.Common.{◌≡◌, ◌++◌, take, map}
use Rattle.derivation_lines.specs.Tail.{entry_line, lines_text}
use Rattle.derivation_lines.proofs.printing.put_entries.Given as goal

abbrev pub invariant-loop-entry : goal.invariant-loop-entry
invariant-loop-entry l = l.text.items ≡ l.initial.text.items ++ lines_text (map entry_line (take l.entry-index l.entries))
