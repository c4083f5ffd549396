use Rattle.std.proofs.Common.{◌≡◌, ◌++◌, take, map}
use Rattle.derivation_lines.specs.Tail.{factor_line, lines_text}
use Rattle.derivation_lines.proofs.printing.put_factors.Given as goal

abbrev pub invariant-loop-factor : goal.invariant-loop-factor
invariant-loop-factor l = l.text.items ≡ l.initial.text.items ++ lines_text (map factor_line (take l.factor-index l.factors))
