-- The second slot is one of the plant.
use Rattle.std.proofs.Common.{arith}
use Rattle.time_grid.proofs.SlotList.{grid-are}
use Rattle.unit_rows.proofs.gaps.push_rows_after.Goals as goal

pub is_too_soon-requires-clause-second : goal.is_too_soon-requires-clause-second
is_too_soon-requires-clause-second c = grid-are c.args.plant.now c.args.grid.now c.loop-place.place c.run_period-second.result c.requires.grid (omega arith) c.run_period-second.ensures
