use Rattle.std.proofs.Common.{◌≡◌, ℕ, ◌<◌, length}
use Rattle.plan_sim.specs.Moves.{cell}
use Rattle.plan_violations.specs.Meeting.{put_in}
use Rattle.plan_violations.proofs.busy.set_row.Given as goal

abbrev pub invariant-loop-column : goal.invariant-loop-column
invariant-loop-column l = record {
  size : length l.cells ≡ length l.initial.cells;
  put : (r c : ℕ) → c < l.width → cell l.cells l.width r c ≡ put_in l.initial.cells l.width l.row l.from l.column l.value r c;
}
