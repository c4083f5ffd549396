use Rattle.std.proofs.Common.{◌≡◌, ◌++◌, take, map}
use Rattle.sum_lines.specs.Head.{lines_text, term_line}
use Rattle.sum_lines.proofs.printing.put_terms.Given as goal

abbrev pub invariant-loop-term : goal.invariant-loop-term
invariant-loop-term l = l.text.items ≡ l.initial.text.items ++ lines_text (map term_line (take l.term-index l.terms))
