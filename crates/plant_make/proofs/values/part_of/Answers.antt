use Rattle.plant_make.proofs.Parts.{part_is, part_there}
use Rattle.plant_make.proofs.values.part_of.Goals as goal

pub returns : goal.returns
returns c = part_is c.args.amount c.args.quantum c.in-Some.part c.requires.some c.in-Some.ensures.0 c.in-Some.ensures.1

pub unreachable-requires : goal.unreachable-requires
unreachable-requires c = part_there c.args.quantum c.args.amount c.requires.part c.in-None.ensures c.requires.some
