-- One more slot, and all.
use Rattle.std.proofs.Common.{arith}
use Rattle.time_grid.specs.Slots.{slots}
use Rattle.unit_rows.specs.Firsts.{first_part}
use Rattle.time_grid.proofs.SlotList.{grid-are}
use Rattle.unit_rows.proofs.Growing.{map_next, map_done}
use Rattle.unit_rows.proofs.firsts.first_parts.Goals as goal

pub first_part-requires-clause-run : goal.first_part-requires-clause-run
first_part-requires-clause-run c = (grid-are c.args.plant.now c.args.grid.now c.loop-place.place c.run_period.result c.requires.grid (omega arith) c.run_period.ensures).run

pub loop-place-preserved : goal.loop-place-preserved
loop-place-preserved c =
    map_next (first_part c.args.plant.now c.args.slot) c.args.grid.now c.loop-place.parts.items c.push.new.self.items c.loop-place.place c.run_period.result c.first_part.result
    (omega arith) c.run_period.ensures c.first_part.ensures c.in_ok-push.ensures.items c.loop-place.invariant

pub returns : goal.returns
returns c =
    map_done (first_part c.args.plant.now c.args.slot) c.args.grid.now (slots c.args.plant.now) c.loop-place.parts.items c.loop-place.place
    (omega arith) c.requires.grid c.loop-place.invariant
