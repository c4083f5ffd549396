-- A writer takes one more item, or breaks off in it.
use Rattle.std.proofs.Common.{[], ◌∷◌}
use Rattle.proof_log.specs.Writer.{writing, took-none}
use Rattle.log_parts.proofs.Writes.{has_more, begun_more}
use Rattle.log_parts.proofs.copying.put_item.Goals as goal

pub returns-in-Ok-clause-ok : goal.returns-in-Ok-clause-ok
returns-in-Ok-clause-ok g c front items has =
    let at = writing g.F.Shelf.files g.F.Shelf.read_faults g.F.Shelf.may_read g.F.Shelf.may_write in
    let old = at c.args.writer.now c.args.files.now in
    has_more front old (at c.put.new.self c.put.new.files) items (c.args.item.now ∷ []) has (c.in-Ok.ensures.took c.args.writer.now c.args.files.now [] (took-none old))

pub returns-in-Ok-clause-named : goal.returns-in-Ok-clause-named
returns-in-Ok-clause-named g c =
    let at = writing g.F.Shelf.files g.F.Shelf.read_faults g.F.Shelf.may_read g.F.Shelf.may_write in
    (c.in-Ok.ensures.took c.args.writer.now c.args.files.now [] (took-none (at c.args.writer.now c.args.files.now))).keeps.name

pub returns-in-Ok-clause-others : goal.returns-in-Ok-clause-others
returns-in-Ok-clause-others g c =
    let at = writing g.F.Shelf.files g.F.Shelf.read_faults g.F.Shelf.may_read g.F.Shelf.may_write in
    (c.in-Ok.ensures.took c.args.writer.now c.args.files.now [] (took-none (at c.args.writer.now c.args.files.now))).keeps.others

pub returns-in-Ok-clause-readable : goal.returns-in-Ok-clause-readable
returns-in-Ok-clause-readable g c =
    let at = writing g.F.Shelf.files g.F.Shelf.read_faults g.F.Shelf.may_read g.F.Shelf.may_write in
    (c.in-Ok.ensures.took c.args.writer.now c.args.files.now [] (took-none (at c.args.writer.now c.args.files.now))).keeps.may_read

pub returns-in-Ok-clause-writable : goal.returns-in-Ok-clause-writable
returns-in-Ok-clause-writable g c =
    let at = writing g.F.Shelf.files g.F.Shelf.read_faults g.F.Shelf.may_read g.F.Shelf.may_write in
    (c.in-Ok.ensures.took c.args.writer.now c.args.files.now [] (took-none (at c.args.writer.now c.args.files.now))).keeps.may_write

pub returns-in-Ok-clause-reads : goal.returns-in-Ok-clause-reads
returns-in-Ok-clause-reads g c =
    let at = writing g.F.Shelf.files g.F.Shelf.read_faults g.F.Shelf.may_read g.F.Shelf.may_write in
    (c.in-Ok.ensures.took c.args.writer.now c.args.files.now [] (took-none (at c.args.writer.now c.args.files.now))).keeps.reads

pub returns-in-Err-clause-err : goal.returns-in-Err-clause-err
returns-in-Err-clause-err g c front items has =
    let at = writing g.F.Shelf.files g.F.Shelf.read_faults g.F.Shelf.may_read g.F.Shelf.may_write in
    let old = at c.args.writer.now c.args.files.now in
    begun_more front old (at c.put.new.self c.put.new.files) items (c.args.item.now ∷ []) has (c.in-Err.ensures.broke c.args.writer.now c.args.files.now [] (took-none old))

pub returns-in-Err-clause-named : goal.returns-in-Err-clause-named
returns-in-Err-clause-named g c =
    let at = writing g.F.Shelf.files g.F.Shelf.read_faults g.F.Shelf.may_read g.F.Shelf.may_write in
    (c.in-Err.ensures.broke c.args.writer.now c.args.files.now [] (took-none (at c.args.writer.now c.args.files.now))).keeps.name

pub returns-in-Err-clause-others : goal.returns-in-Err-clause-others
returns-in-Err-clause-others g c =
    let at = writing g.F.Shelf.files g.F.Shelf.read_faults g.F.Shelf.may_read g.F.Shelf.may_write in
    (c.in-Err.ensures.broke c.args.writer.now c.args.files.now [] (took-none (at c.args.writer.now c.args.files.now))).keeps.others

pub returns-in-Err-clause-readable : goal.returns-in-Err-clause-readable
returns-in-Err-clause-readable g c =
    let at = writing g.F.Shelf.files g.F.Shelf.read_faults g.F.Shelf.may_read g.F.Shelf.may_write in
    (c.in-Err.ensures.broke c.args.writer.now c.args.files.now [] (took-none (at c.args.writer.now c.args.files.now))).keeps.may_read

pub returns-in-Err-clause-writable : goal.returns-in-Err-clause-writable
returns-in-Err-clause-writable g c =
    let at = writing g.F.Shelf.files g.F.Shelf.read_faults g.F.Shelf.may_read g.F.Shelf.may_write in
    (c.in-Err.ensures.broke c.args.writer.now c.args.files.now [] (took-none (at c.args.writer.now c.args.files.now))).keeps.may_write

pub returns-in-Err-clause-reads : goal.returns-in-Err-clause-reads
returns-in-Err-clause-reads g c =
    let at = writing g.F.Shelf.files g.F.Shelf.read_faults g.F.Shelf.may_read g.F.Shelf.may_write in
    (c.in-Err.ensures.broke c.args.writer.now c.args.files.now [] (took-none (at c.args.writer.now c.args.files.now))).keeps.reads
