-- The states so far have been put at the end.
use Rattle.std.proofs.Common.{◌≡◌, ◌++◌, take}
use Rattle.what_if.proofs.raising.push_copies.Given as goal

abbrev pub invariant-loop-state : goal.invariant-loop-state
invariant-loop-state l = l.copies ≡ l.initial.copies ++ take l.state-index l.states
