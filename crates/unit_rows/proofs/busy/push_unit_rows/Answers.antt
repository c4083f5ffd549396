-- One more period.
use Rattle.std.proofs.Common.{◌+◌, ◌++◌, ◌∷◌, [], ap, sym, ◌∙◌, append-nil}
use Rattle.unit_rows.specs.Busy.{busy_row, unit_busy_rows}
use Rattle.unit_rows.proofs.Growing.{map-range_next, added_next}
use Rattle.unit_rows.proofs.busy.push_unit_rows.Goals as goal

pub loop-period-init : goal.loop-period-init
unfolding unit_busy_rows
loop-period-init c = sym (append-nil c.args.into.now.items)

pub loop-period-preserved : goal.loop-period-preserved
unfolding unit_busy_rows
loop-period-preserved c =
    added_next c.args.into.now.items (unit_busy_rows c.args.plant.now c.args.unit c.loop-period.period) (busy_row c.args.plant.now c.args.unit c.loop-period.period ∷ []) c.push.new.self.items c.loop-period.into.items
    (unit_busy_rows c.args.plant.now c.args.unit (c.loop-period.period + 1))
    c.loop-period.invariant
    (c.in_ok-push.ensures.items ∙ ap (λ r. c.loop-period.into.items ++ r ∷ []) c.in_ok-row.ensures)
    (map-range_next (busy_row c.args.plant.now c.args.unit) c.loop-period.period)
