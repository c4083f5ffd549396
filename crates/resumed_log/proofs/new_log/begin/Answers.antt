-- The new log is cleared, or could not be.
use Rattle.log_nodes.proofs.Stays.{clear_stays, cleared_stays}
use Rattle.resumed_log.proofs.new_log.begin.Goals as goal

pub returns-in-Ok-clause-frame : goal.returns-in-Ok-clause-frame
returns-in-Ok-clause-frame g c =
    let begun = c.in-Ok.ensures in
    record {
      others = cleared_stays c.args.name.now (g.F.Shelf.files c.args.files.now) (g.F.Shelf.files c.begin_with.new.files) begun.ok;
      readable = begun.readable;
      writable = begun.writable;
      no_read = begun.no_read;
      writes = begun.later;
    }

pub returns-in-Err-clause-frame : goal.returns-in-Err-clause-frame
returns-in-Err-clause-frame g c =
    let failed = c.in-Err.ensures in
    record {
      others = clear_stays c.args.name.now (g.F.Shelf.files c.args.files.now) (g.F.Shelf.files c.begin_with.new.files) failed.err;
      readable = failed.readable;
      writable = failed.writable;
      no_read = failed.no_read;
      writes = failed.later;
    }
