-- Each is a slot of the plant.
use Rattle.std.proofs.Common.{arith}
use Rattle.time_grid.proofs.SlotList.{grid-are}
use Rattle.setup_slots.proofs.task_slot.task_slots.Goals as goal

pub task_slot-requires-clause-slot : goal.task_slot-requires-clause-slot
task_slot-requires-clause-slot c = grid-are c.args.plant.now c.args.grid.now c.loop-place.place c.run_period.result c.requires.grid (omega arith) c.run_period.ensures
