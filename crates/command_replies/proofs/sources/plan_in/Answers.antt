use Rattle.command_replies.specs.Sources.{IsPlanRefusal}
use Rattle.command_replies.proofs.ReadFiles.{long_plan}
use Rattle.command_replies.proofs.sources.plan_in.Goals as goal

pub returns-in-Err-TooLong-clause-refused : goal.returns-in-Err-TooLong-clause-refused
returns-in-Err-TooLong-clause-refused g c =
    long_plan c.args.plant.now IsPlanRefusal (g.F.Shelf.files c.args.files.now) c.args.name.now c.long_plan.result
    (c.read_all.ensures.too_long (cc (c.in-Err-TooLong.is, c.in-Err-TooLong.field-0-is))) c.long_plan.ensures.refused
