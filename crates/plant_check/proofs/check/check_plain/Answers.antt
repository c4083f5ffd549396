-- What is borne out over the part's program holds of the plans that the part admits.
use Rattle.valid_log.proofs.PartSaying.{part_yes_if}
use Rattle.plant_check.proofs.check.check_plain.Goals as goal

pub returns-clause-says : goal.returns-clause-says
returns-clause-says g c = part_yes_if c.args.part.plant.now c.args.part.program c.check_rows.result c.requires.sound c.requires.part c.check_rows.ensures.holds
