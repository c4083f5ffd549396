use Rattle.std.proofs.Common.{◌≡◌, ◌++◌, take}
use Rattle.derivation_lines.specs.Tail.{tail_text}
use Rattle.derivation_lines.proofs.printing.put_all.Given as goal

abbrev pub invariant-loop-derivation : goal.invariant-loop-derivation
invariant-loop-derivation l = l.text.items ≡ l.initial.text.items ++ tail_text (take l.derivation-index l.derivations)
