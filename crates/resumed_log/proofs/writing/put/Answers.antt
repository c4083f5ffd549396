-- The log takes the item, or breaks off in it; all other files stay.
use Rattle.std.proofs.Common.{[]}
use Rattle.proof_log.specs.Writer.{writing}
use Rattle.resumed_log.specs.laws.Beside.{kept-none}
use Rattle.resumed_log.proofs.Puts.{wrote-one}
use Rattle.resumed_log.proofs.writing.put.Goals as goal

pub returns-clause-frame : goal.returns-clause-frame
returns-clause-frame g c =
    let at = writing g.F.Shelf.files g.F.Shelf.read_faults g.F.Shelf.may_read g.F.Shelf.may_write in
    wrote-one g.F.Shelf c.args.out.now.writer c.put.new.self.writer c.args.files.now c.put.new.files (c.in_ok-put.ensures.took c.args.out.now c.args.files.now [] (kept-none (at c.args.out.now.writer c.args.files.now))) c.in_ok-put.ensures.later

pub returns-clause-named : goal.returns-clause-named
returns-clause-named g c =
    let at = writing g.F.Shelf.files g.F.Shelf.read_faults g.F.Shelf.may_read g.F.Shelf.may_write in
    (c.in_ok-put.ensures.took c.args.out.now c.args.files.now [] (kept-none (at c.args.out.now.writer c.args.files.now))).name

pub returns-in_err-put-clause-frame : goal.returns-in_err-put-clause-frame
returns-in_err-put-clause-frame g c =
    let at = writing g.F.Shelf.files g.F.Shelf.read_faults g.F.Shelf.may_read g.F.Shelf.may_write in
    wrote-one g.F.Shelf c.args.out.now.writer c.put.new.self.writer c.args.files.now c.put.new.files (c.in_err-put.ensures.broke c.args.out.now c.args.files.now [] (kept-none (at c.args.out.now.writer c.args.files.now))) c.in_err-put.ensures.later

pub returns-in_err-put-clause-named : goal.returns-in_err-put-clause-named
returns-in_err-put-clause-named g c =
    let at = writing g.F.Shelf.files g.F.Shelf.read_faults g.F.Shelf.may_read g.F.Shelf.may_write in
    (c.in_err-put.ensures.broke c.args.out.now c.args.files.now [] (kept-none (at c.args.out.now.writer c.args.files.now))).name
