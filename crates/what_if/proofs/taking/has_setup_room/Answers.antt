-- The setup of one unit more is counted.
use Rattle.std.proofs.Common.{arith}
use Rattle.setup_slots.specs.Several.{rows_with, slots_with}
use Rattle.what_if.proofs.TakenHeads.{rows-counted, slots-counted}
use Rattle.what_if.proofs.taking.has_setup_room.Goals as goal

pub loop-unit-preserved : goal.loop-unit-preserved
loop-unit-preserved c =
    let inv = c.loop-unit.invariant in
    let plant = c.args.plant.now in
    let units = c.args.units.now in
    let i = c.loop-unit.unit-index in
    let size = c.in_ok-size in
    record {
      slots = slots-counted plant units i c.loop-unit.all_slots size.size.0 (slots_with plant units c.args.slots) c.loop-unit-test.true size.ensures.slots inv.slots;
      rows = rows-counted plant units i c.loop-unit.all_rows size.size.1 (rows_with plant units c.args.rows) c.loop-unit-test.true size.ensures.rows inv.rows;
      few_slots = omega arith;
      few_rows = omega arith;
    }
