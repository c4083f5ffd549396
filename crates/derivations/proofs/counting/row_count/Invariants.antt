-- The rows so far.
use Rattle.std.proofs.Common.{◌≡◌, take}
use Rattle.derivations.specs.Growth.{rows_of}
use Rattle.derivations.proofs.counting.row_count.Given as goal

abbrev pub invariant-loop-place : goal.invariant-loop-place
invariant-loop-place l = l.count ≡ rows_of (take l.place l.derivations)
