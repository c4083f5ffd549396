-- One more slot, and all.
use Rattle.std.proofs.Common.{arith}
use Rattle.time_grid.specs.Slots.{slots}
use Rattle.unit_rows.specs.Busy.{busy_part}
use Rattle.time_grid.proofs.SlotList.{grid-are}
use Rattle.unit_rows.proofs.Growing.{map_next, map_done}
use Rattle.unit_rows.proofs.busy.busy_parts.Goals as goal

pub busy_part-requires-clause-run : goal.busy_part-requires-clause-run
busy_part-requires-clause-run c = (grid-are c.args.plant.now c.args.grid.now c.loop-slot.slot c.run_period.result c.requires.grid (omega arith) c.run_period.ensures).run

pub loop-slot-preserved : goal.loop-slot-preserved
loop-slot-preserved c =
    map_next (busy_part c.args.plant.now c.args.unit c.args.period) c.args.grid.now c.loop-slot.parts.items c.push.new.self.items c.loop-slot.slot c.run_period.result c.busy_part.result
    (omega arith) c.run_period.ensures c.busy_part.ensures c.in_ok-push.ensures.items c.loop-slot.invariant

pub returns : goal.returns
returns c =
    map_done (busy_part c.args.plant.now c.args.unit c.args.period) c.args.grid.now (slots c.args.plant.now) c.loop-slot.parts.items c.loop-slot.slot
    (omega arith) c.requires.grid c.loop-slot.invariant
