use Rattle.std.proofs.Common.{◌≡◌, ◌++◌, take}
use Rattle.proof_log.specs.Log.{lines_text, value_lines}
use Rattle.proof_log.proofs.parts.put_values.Given as goal

abbrev pub invariant-loop-slot : goal.invariant-loop-slot
invariant-loop-slot l = l.into.items ≡ l.initial.into.items ++ lines_text (value_lines 0 (take l.slot l.point))
