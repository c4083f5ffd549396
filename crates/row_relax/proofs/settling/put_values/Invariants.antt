-- The values so far are those of the domains so far.
use Rattle.std.proofs.Common.{◌≡◌, length, take}
use Rattle.row_kit.specs.Area.{present}
use Rattle.row_relax.specs.Settle.{only_point}
use Rattle.row_relax.proofs.settling.put_values.Given as goal

abbrev pub invariant-loop-slot : goal.invariant-loop-slot
invariant-loop-slot l = record {
  count : length l.point ≡ l.slots;
  so_far : take l.slot l.point ≡ only_point (take l.slot (present l.area));
}
