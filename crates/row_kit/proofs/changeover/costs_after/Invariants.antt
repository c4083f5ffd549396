-- What has been counted and what the starts that are left cost give the whole.
use Rattle.std.proofs.Common.{◌≡◌, ◌+◌, ◌*◌, ◌≤◌, drop}
use Rattle.std.specs.List.{sum_by}
use Rattle.row_kit.specs.Change.{started, pair_cost, costs_after}
use Rattle.row_kit.proofs.changeover.costs_after.Given as goal

abbrev pub invariant-loop-slot : goal.invariant-loop-slot
invariant-loop-slot l = record {
  whole : l.sum + sum_by (pair_cost l.changes (started l.tags l.point) l.start) (started (drop l.slot l.tags) (drop l.slot l.point)) ≡ costs_after l.changes (started l.tags l.point) l.start;
  small : l.sum ≤ 1000000 * l.slot;
}
