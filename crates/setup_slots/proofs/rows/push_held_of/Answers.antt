-- One more period.
use Rattle.std.proofs.Common.{sym, append-nil}
use Rattle.setup_slots.specs.declared.setup.SetupRow.TheVariants.{Held}
use Rattle.setup_slots.specs.Rows.{held_rows}
use Rattle.setup_slots.proofs.Growing.{range-more_map}
use Rattle.setup_slots.proofs.rows.push_held_of.Goals as goal

pub loop-period-init : goal.loop-period-init
unfolding held_rows
loop-period-init c = sym (append-nil c.args.rows.now.items)

pub loop-period-preserved : goal.loop-period-preserved
unfolding held_rows
loop-period-preserved c =
    range-more_map (Held c.args.task) c.loop-period.period c.args.rows.now.items c.loop-period.rows.items c.push.new.self.items c.loop-period.invariant c.in_ok-push.ensures.items
