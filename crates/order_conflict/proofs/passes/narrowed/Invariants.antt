use Rattle.std.proofs.Common.{◌≡◌, ◌+◌, false, cond, length}
use Rattle.std.specs.Prelude.{count_by}
use Rattle.stn_model.specs.Best.{NoPlan}
use Rattle.order_text.specs.Marks.{is_left}
use Rattle.order_conflict.specs.Conflict.{left_plant, AreMarks}
use Rattle.order_conflict.proofs.passes.narrowed.Given as goal

-- no plan meets all that are left, and after a pass that left none out the marks are right
abbrev pub invariant-loop-changed : goal.invariant-loop-changed
invariant-loop-changed g l = record {
  each : length l.marks.items ≡ length l.plant.deliveries;
  none : NoPlan (left_plant l.plant l.marks.items);
  right : l.changed ≡ false → AreMarks l.plant l.budget l.marks.items;
}

abbrev pub decreases-loop-changed : goal.decreases-loop-changed
decreases-loop-changed g l = count_by is_left l.marks.items + cond l.changed 1 0
