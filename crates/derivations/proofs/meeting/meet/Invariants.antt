-- What the domains so far share.
use Rattle.std.proofs.Common.{◌≡◌, take}
use Rattle.std.specs.List.{All}
use Rattle.row_kit.specs.Domain.{IsNormal}
use Rattle.derivations.specs.Larger.{met}
use Rattle.derivations.proofs.meeting.meet.Given as goal

abbrev pub invariant-loop-slot : goal.invariant-loop-slot
invariant-loop-slot l = record {
  so_far : l.domains ≡ take l.slot (met l.one l.other);
  normal : All IsNormal l.domains;
}
