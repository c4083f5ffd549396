use Rattle.std.proofs.Common.{◌≡◌, ◌≤◌, ◌*◌, length}
use Rattle.plan_violations.specs.Meeting.{AreMeetings, IsRunTable}
use Rattle.plan_violations.proofs.busy.meet_back.Given as goal

abbrev pub invariant-loop-left : goal.invariant-loop-left
invariant-loop-left l = record {
  inside : l.left ≤ length l.plan;
  size : length l.cells ≡ length l.plant.units * l.width;
  table : IsRunTable l.plant l.plan l.width l.left l.cells;
  later : AreMeetings l.plant l.plan l.left l.later;
}

abbrev pub decreases-loop-left : goal.decreases-loop-left
decreases-loop-left l = l.left
