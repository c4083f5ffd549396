use Rattle.std.proofs.Common.{◌≡◌, ◌++◌, drop}
use Rattle.plan_picture.specs.Columns.{beginning}
use Rattle.plan_picture.proofs.columns.push_beginning.Given as goal

abbrev pub invariant-loop-byte : goal.invariant-loop-byte
invariant-loop-byte l = l.text.items ++ beginning l.left (drop l.byte-index l.words) ≡ l.initial.text.items ++ beginning l.initial.left l.words
