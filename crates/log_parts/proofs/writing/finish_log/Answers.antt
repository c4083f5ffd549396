use Rattle.proof_log.specs.Writer.{writing, written}
use Rattle.log_parts.proofs.Writes.{finish_broken}
use Rattle.log_parts.proofs.writing.finish_log.Goals as goal

pub returns-in-Err-clause-err : goal.returns-in-Err-clause-err
returns-in-Err-clause-err g c front items has =
    finish_broken front (writing g.F.Shelf.files g.F.Shelf.read_faults g.F.Shelf.may_read g.F.Shelf.may_write c.args.writer c.args.files.now)
    (written g.F.Shelf.files g.F.Shelf.read_faults g.F.Shelf.may_read g.F.Shelf.may_write c.args.writer c.finish.new.files) items c.args.claim.now has c.in-Err.ensures.broke
