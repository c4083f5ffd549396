use Rattle.std.proofs.Common.{◌≡◌, ◌++◌, take}
use Rattle.plan_picture.specs.Marks.{escaped}
use Rattle.plan_picture.proofs.marks.push_escaped.Given as goal

abbrev pub invariant-loop-byte : goal.invariant-loop-byte
invariant-loop-byte l = l.text.items ≡ l.initial.text.items ++ escaped (take l.byte-index l.words)
