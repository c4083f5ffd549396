-- The limits with the setups have few rows.
use Rattle.plant_check.proofs.HeadJudged.{held_small}
use Rattle.plant_check.proofs.check.check_set_up.Goals as goal

pub read_tail-requires-clause-rows : goal.read_tail-requires-clause-rows
read_tail-requires-clause-rows g c = (held_small c.args.part.plant.now c.args.part.program c.args.part.depth c.args.setups.now c.requires.held).rows
