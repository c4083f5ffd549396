use Rattle.command_replies.specs.Sources.{IsPlantRefusal}
use Rattle.command_replies.proofs.ReadFiles.{long_plant}
use Rattle.command_replies.proofs.sources.plant_in.Goals as goal

pub returns-in-Err-TooLong-clause-refused : goal.returns-in-Err-TooLong-clause-refused
returns-in-Err-TooLong-clause-refused g c =
    long_plant IsPlantRefusal (g.F.Shelf.files c.args.files.now) c.args.name.now c.long_plant.result
    (c.read_all.ensures.too_long (cc (c.in-Err-TooLong.is, c.in-Err-TooLong.field-0-is))) c.long_plant.ensures.refused
