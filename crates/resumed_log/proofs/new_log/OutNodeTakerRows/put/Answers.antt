-- The writer takes the item, or breaks off in it, and leaves all other files.
use Rattle.std.proofs.Common.{[]}
use Rattle.std.proofs.lemmas.Result.{on_err_weaker, on_ok_weaker}
use Rattle.proof_log.specs.Writer.{took-none, writing}
use Rattle.resumed_log.proofs.Readers.{keeps-then}
use Rattle.resumed_log.proofs.new_log.OutNodeTakerRows.put.Goals as goal

pub returns-clause-took : goal.returns-clause-took
returns-clause-took g c =
    let at = writing g.F.Shelf.files g.F.Shelf.read_faults g.F.Shelf.may_read g.F.Shelf.may_write in
    let writer = c.args.self.now.writer in
    let here = at writer c.args.files.now in
    let there = at c.put.new.self c.put.new.files in
    on_ok_weaker c.put.result (λ took. λ taker outside items kept. keeps-then (at taker.writer outside) here there kept (took writer c.args.files.now [] (took-none here)).keeps) c.put.ensures.took

pub returns-clause-broke : goal.returns-clause-broke
returns-clause-broke g c =
    let at = writing g.F.Shelf.files g.F.Shelf.read_faults g.F.Shelf.may_read g.F.Shelf.may_write in
    let writer = c.args.self.now.writer in
    let here = at writer c.args.files.now in
    let there = at c.put.new.self c.put.new.files in
    on_err_weaker c.put.result (λ broke. λ taker outside items kept. keeps-then (at taker.writer outside) here there kept (broke writer c.args.files.now [] (took-none here)).keeps) c.put.ensures.broke
