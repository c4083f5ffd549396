-- The area has as many slots as before.
use Rattle.std.proofs.Common.{◌≡◌, length}
use Rattle.row_kit.specs.Area.{present}
use Rattle.best_first.proofs.explorer.put_domains.Given as goal

abbrev pub invariant-loop-slot : goal.invariant-loop-slot
invariant-loop-slot l = record {
  slots : length (present l.area) ≡ length (present l.initial.area);
  end : l.slot-end ≡ length (present l.initial.area);
}
