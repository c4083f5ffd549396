-- The slots so far have one value each.
use Rattle.std.proofs.Common.{take}
use Rattle.std.specs.List.{All}
use Rattle.row_kit.specs.Area.{present}
use Rattle.row_kit.specs.Domain.{IsSingle}
use Rattle.row_relax.proofs.settling.first_are_single.Given as goal

abbrev pub invariant-loop-slot : goal.invariant-loop-slot
invariant-loop-slot l = All IsSingle (take l.slot (present l.area))
