-- One more slot, and all.
use Rattle.std.proofs.Common.{arith}
use Rattle.time_grid.specs.Slots.{slots}
use Rattle.row_set.specs.ProfitParts.{profit_part}
use Rattle.time_grid.proofs.SlotList.{grid-are}
use Rattle.unit_rows.proofs.Growing.{map_next, map_done}
use Rattle.row_set.proofs.parts.profit_parts.Goals as goal

pub profit_part-requires-clause-slot : goal.profit_part-requires-clause-slot
profit_part-requires-clause-slot c = (grid-are c.args.plant.now c.args.grid.now c.loop-place.place c.run_period.result c.requires.grid (omega arith) c.run_period.ensures)

pub loop-place-preserved : goal.loop-place-preserved
loop-place-preserved c =
    map_next (profit_part c.args.plant.now) c.args.grid.now c.loop-place.parts.items c.push.new.self.items c.loop-place.place c.run_period.result c.profit_part.result
    (omega arith) c.run_period.ensures c.profit_part.ensures c.in_ok-push.ensures.items c.loop-place.invariant

pub returns : goal.returns
returns c =
    map_done (profit_part c.args.plant.now) c.args.grid.now (slots c.args.plant.now) c.loop-place.parts.items c.loop-place.place
    (omega arith) c.requires.grid c.loop-place.invariant
