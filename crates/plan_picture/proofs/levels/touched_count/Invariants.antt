use Rattle.std.proofs.Common.{◌≡◌, ◌≤◌}
use Rattle.plan_picture.specs.Graphs.{touched_before}
use Rattle.plan_picture.proofs.levels.touched_count.Given as goal

abbrev pub invariant-loop-state : goal.invariant-loop-state
invariant-loop-state l = record {
  value : l.count ≡ touched_before l.plant l.plan l.state;
  small : l.count ≤ l.state;
}
