-- The least so far and the least of the rest give the least.
use Rattle.std.proofs.Common.{◌≡◌, ◌≤◌, min, drop}
use Rattle.row_kit.specs.Change.{started}
use Rattle.row_kit.specs.laws.Next.{least_after}
use Rattle.row_kit.proofs.changeover.next_place.Given as goal

abbrev pub invariant-loop-slot : goal.invariant-loop-slot
invariant-loop-slot l = record {
  whole : min l.next (least_after (started (drop l.slot l.tags) (drop l.slot l.point)) l.start) ≡ least_after (started l.tags l.point) l.start;
  small : l.next ≤ 4294967296;
}
