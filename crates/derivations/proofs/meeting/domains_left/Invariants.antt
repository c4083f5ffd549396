-- The domains so far.
use Rattle.std.proofs.Common.{◌≡◌, take}
use Rattle.row_kit.specs.Area.{present}
use Rattle.derivations.proofs.meeting.domains_left.Given as goal

abbrev pub invariant-loop-slot : goal.invariant-loop-slot
invariant-loop-slot l = l.domains ≡ take l.slot (present l.area)
