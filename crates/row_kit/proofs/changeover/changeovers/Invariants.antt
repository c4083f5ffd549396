-- What has been counted and what the starts that are left cost give the whole.
use Rattle.std.proofs.Common.{◌≡◌, ◌+◌, ◌*◌, ◌≤◌, drop}
use Rattle.std.specs.List.{sum_by}
use Rattle.row_kit.specs.Change.{started, costs_of, changeovers}
use Rattle.row_kit.proofs.changeover.changeovers.Given as goal

abbrev pub invariant-loop-slot : goal.invariant-loop-slot
invariant-loop-slot l = record {
  whole : l.sum + sum_by (costs_of l.changes (started l.tags l.point)) (started (drop l.slot l.tags) (drop l.slot l.point)) ≡ changeovers l.changes l.tags l.point;
  small : l.sum ≤ 4097000000 * l.slot;
}
