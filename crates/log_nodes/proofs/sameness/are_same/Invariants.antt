-- The items so far are the same.
use Rattle.std.proofs.Common.{◌≡◌, take}
use Rattle.log_nodes.proofs.sameness.are_same.Given as goal

abbrev pub invariant-loop-place : goal.invariant-loop-place
invariant-loop-place g l = take l.place l.one ≡ take l.place l.other
