-- The log is begun, takes the tree, and is ended with the claim.
use Rattle.std.proofs.Common.{◌∙◌, ◌^◌, ◌-◌, Option, subst}
use Rattle.log_parts.specs.declared.joins.Joined.TheVariants.{No}
use Rattle.log_parts.specs.declared.writing.BadPart.{BadPart}
use Rattle.log_parts.specs.Heads.{front_text}
use Rattle.log_parts.specs.laws.Copying.{items_over, name_of, HasJoined}
use Rattle.log_parts.proofs.Copies.{err_of}
use Rattle.log_parts.proofs.PartsCopied.{powered}
use Rattle.log_parts.proofs.JoinWritten.{left_begin, left_broken, left_finish, bad_written, all_written}
use Rattle.log_parts.proofs.Frames.{both-then, item-put}
use Rattle.log_parts.proofs.writing.write_log.Goals as goal

pub returns-in_err-writer-clause-err : goal.returns-in_err-writer-clause-err
returns-in_err-writer-clause-err g c =
    let old = g.F.Shelf.files c.args.files.now in
    let new = g.F.Shelf.files c.begin_log.new.files in
    err_of c.from_residual.result
    (left_begin c.args.logs.limits c.args.logs.levels c.args.logs.stem.now c.args.logs.heads.now c.args.name.now (front_text c.args.front.version c.args.front.declared.now) c.args.larger.now old new c.in_err-writer.ensures.err)

pub returns-in_err-part-clause-err : goal.returns-in_err-part-clause-err
returns-in_err-part-clause-err g c =
    let limits = c.args.logs.limits in
    let stem = c.args.logs.stem.now in
    let name = c.args.name.now in
    let front = front_text c.args.front.version c.args.front.declared.now in
    let larger = c.args.larger.now in
    let old = g.F.Shelf.files c.args.files.now in
    let mid = g.F.Shelf.files c.begin_log.new.files in
    let writer = c.in_ok-writer.writer in
    let begun = c.in_ok-writer.ensures.begun in
    let named = c.in_ok-writer.ensures.named in
    let stay = c.in_ok-writer.ensures.others in
    let some = powered c.args.logs.levels in
    let new = g.F.Shelf.files c.write_tree.new.files in
    err_of c.from_residual-in_err-part.result
    (left_broken limits c.args.logs.levels stem c.args.logs.heads.now name front larger old mid new writer named some c.requires.apart stay begun c.in_err-part.ensures.err)

pub returns-in_err-finish_log-in-None-clause-err : goal.returns-in_err-finish_log-in-None-clause-err
returns-in_err-finish_log-in-None-clause-err g c =
    let limits = c.args.logs.limits in
    let stem = c.args.logs.stem.now in
    let name = c.args.name.now in
    let front = front_text c.args.front.version c.args.front.declared.now in
    let larger = c.args.larger.now in
    let old = g.F.Shelf.files c.args.files.now in
    let mid = g.F.Shelf.files c.begin_log.new.files in
    let writer = c.in_ok-writer.writer in
    let begun = c.in_ok-writer.ensures.begun in
    let named = c.in_ok-writer.ensures.named in
    let stay = c.in_ok-writer.ensures.others in
    let some = powered c.args.logs.levels in
    let last = g.F.Shelf.files c.write_tree.new.files in
    let later = c.write_tree.new.writer in
    let new = g.F.Shelf.files c.finish_log.new.files in
    let none = subst (λ (found : Option BadPart). HasJoined limits (2 ^ c.args.logs.levels) stem c.args.logs.heads.now (items_over 0 (c.args.logs.levels - 0) 0) mid writer last later found) c.in-None.is c.in_ok-part.ensures.joined in
    err_of c.from_residual-in_err-finish_log-in-None.result
    (left_finish limits c.args.logs.levels stem c.args.logs.heads.now name front larger old mid last new writer later (c.in_ok-part.ensures.named ∙ named) some c.requires.apart stay begun none c.in_err-finish_log-in-None.ensures.err)

pub returns-in-Some-clause-written : goal.returns-in-Some-clause-written
returns-in-Some-clause-written g c =
    let limits = c.args.logs.limits in
    let stem = c.args.logs.stem.now in
    let name = c.args.name.now in
    let front = front_text c.args.front.version c.args.front.declared.now in
    let larger = c.args.larger.now in
    let old = g.F.Shelf.files c.args.files.now in
    let mid = g.F.Shelf.files c.begin_log.new.files in
    let writer = c.in_ok-writer.writer in
    let begun = c.in_ok-writer.ensures.begun in
    let named = c.in_ok-writer.ensures.named in
    let stay = c.in_ok-writer.ensures.others in
    let some = powered c.args.logs.levels in
    let new = g.F.Shelf.files c.write_tree.new.files in
    let later = c.write_tree.new.writer in
    let bad = subst (λ (found : Option BadPart). HasJoined limits (2 ^ c.args.logs.levels) stem c.args.logs.heads.now (items_over 0 (c.args.logs.levels - 0) 0) mid writer new later found) c.in-Some.is c.in_ok-part.ensures.joined in
    bad_written limits c.args.logs.levels stem c.args.logs.heads.now name front larger c.args.claim old mid new writer later c.in-Some.field-0 (No c.in-Some.field-0.part c.in-Some.field-0.defect) some c.requires.apart stay begun bad

pub returns-in_ok-finish_log-in-None-clause-written : goal.returns-in_ok-finish_log-in-None-clause-written
returns-in_ok-finish_log-in-None-clause-written g c =
    let limits = c.args.logs.limits in
    let stem = c.args.logs.stem.now in
    let name = c.args.name.now in
    let front = front_text c.args.front.version c.args.front.declared.now in
    let larger = c.args.larger.now in
    let old = g.F.Shelf.files c.args.files.now in
    let mid = g.F.Shelf.files c.begin_log.new.files in
    let writer = c.in_ok-writer.writer in
    let begun = c.in_ok-writer.ensures.begun in
    let named = c.in_ok-writer.ensures.named in
    let stay = c.in_ok-writer.ensures.others in
    let some = powered c.args.logs.levels in
    let last = g.F.Shelf.files c.write_tree.new.files in
    let later = c.write_tree.new.writer in
    let new = g.F.Shelf.files c.finish_log.new.files in
    let none = subst (λ (found : Option BadPart). HasJoined limits (2 ^ c.args.logs.levels) stem c.args.logs.heads.now (items_over 0 (c.args.logs.levels - 0) 0) mid writer last later found) c.in-None.is c.in_ok-part.ensures.joined in
    all_written limits c.args.logs.levels stem c.args.logs.heads.now name front larger c.args.claim old mid last new writer later (c.in_ok-part.ensures.named ∙ named) some c.requires.apart stay begun none c.in_ok-finish_log-in-None.ensures.ok

-- ---- what is left of the store

pub returns-in_err-writer-clause-frame : goal.returns-in_err-writer-clause-frame
returns-in_err-writer-clause-frame g c =
    let begun = c.in_err-writer.ensures in
    item-put g.F.Shelf c.args.name.now c.args.files.now c.begin_log.new.files begun.others begun.readable begun.writable begun.reads begun.writes

pub returns-in_err-part-clause-frame : goal.returns-in_err-part-clause-frame
returns-in_err-part-clause-frame g c =
    let out = c.args.name.now in
    let begun = c.in_ok-writer.ensures in
    both-then g.F.Shelf out (name_of c.in_ok-writer.writer) c.args.files.now c.begin_log.new.files c.write_tree.new.files begun.named (item-put g.F.Shelf out c.args.files.now c.begin_log.new.files begun.others begun.readable begun.writable begun.reads begun.writes) c.in_err-part.ensures.frame

pub returns-in-Some-clause-frame : goal.returns-in-Some-clause-frame
returns-in-Some-clause-frame g c =
    let out = c.args.name.now in
    let begun = c.in_ok-writer.ensures in
    both-then g.F.Shelf out (name_of c.in_ok-writer.writer) c.args.files.now c.begin_log.new.files c.write_tree.new.files begun.named (item-put g.F.Shelf out c.args.files.now c.begin_log.new.files begun.others begun.readable begun.writable begun.reads begun.writes) c.in_ok-part.ensures.frame

pub returns-in_err-finish_log-in-None-clause-frame : goal.returns-in_err-finish_log-in-None-clause-frame
returns-in_err-finish_log-in-None-clause-frame g c =
    let out = c.args.name.now in
    let begun = c.in_ok-writer.ensures in
    let finished = c.in_err-finish_log-in-None.ensures in
    both-then g.F.Shelf out (name_of c.write_tree.new.writer) c.args.files.now c.write_tree.new.files c.finish_log.new.files (c.in_ok-part.ensures.named ∙ begun.named)
    (both-then g.F.Shelf out (name_of c.in_ok-writer.writer) c.args.files.now c.begin_log.new.files c.write_tree.new.files begun.named (item-put g.F.Shelf out c.args.files.now c.begin_log.new.files begun.others begun.readable begun.writable begun.reads begun.writes) c.in_ok-part.ensures.frame)
    (item-put g.F.Shelf (name_of c.write_tree.new.writer) c.write_tree.new.files c.finish_log.new.files finished.others finished.readable finished.writable finished.reads finished.writes)

pub returns-in_ok-finish_log-in-None-clause-frame : goal.returns-in_ok-finish_log-in-None-clause-frame
returns-in_ok-finish_log-in-None-clause-frame g c =
    let out = c.args.name.now in
    let begun = c.in_ok-writer.ensures in
    let finished = c.in_ok-finish_log-in-None.ensures in
    both-then g.F.Shelf out (name_of c.write_tree.new.writer) c.args.files.now c.write_tree.new.files c.finish_log.new.files (c.in_ok-part.ensures.named ∙ begun.named)
    (both-then g.F.Shelf out (name_of c.in_ok-writer.writer) c.args.files.now c.begin_log.new.files c.write_tree.new.files begun.named (item-put g.F.Shelf out c.args.files.now c.begin_log.new.files begun.others begun.readable begun.writable begun.reads begun.writes) c.in_ok-part.ensures.frame)
    (item-put g.F.Shelf (name_of c.write_tree.new.writer) c.write_tree.new.files c.finish_log.new.files finished.others finished.readable finished.writable finished.reads finished.writes)
