use Rattle.std.proofs.Common.{◌≡◌, ◌++◌, map, take}
use Rattle.proof_log.specs.Log.{lines_text, mult_line}
use Rattle.proof_log.proofs.parts.put_mults.Given as goal

abbrev pub invariant-loop-mult : goal.invariant-loop-mult
invariant-loop-mult l = l.into.items ≡ l.initial.into.items ++ lines_text (map mult_line (take l.mult-index l.mults))
