-- A file that is too long is no text of a conflict.
use Rattle.std.proofs.Common.{ap}
use Rattle.std.specs.Prelude.{Err}
use Rattle.conflict_commands.proofs.Checks.{too_long_read}
use Rattle.conflict_commands.proofs.checking.read_text.Goals as goal

pub returns-in-Err-TooLong-clause-reads : goal.returns-in-Err-TooLong-clause-reads
returns-in-Err-TooLong-clause-reads g c =
    too_long_read c.args.plant.now (g.F.Shelf.files c.args.files.now) c.args.name.now (c.in-Err-TooLong.ensures.too_long (ap Err c.in-Err-TooLong.field-0-is))
