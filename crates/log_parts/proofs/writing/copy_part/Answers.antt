-- The log of a part is copied, or breaks off, or shows a defect.
use Rattle.std.proofs.Common.{◌∙◌, ◌^◌, get_or, refl}
use Rattle.log_parts.specs.laws.Copying.{items_over, name_of}
use Rattle.log_parts.proofs.Copies.{err_of}
use Rattle.log_parts.proofs.PartsCopied.{none_put, part_bad}
use Rattle.log_parts.proofs.Frames.{both-none}
use Rattle.log_parts.proofs.writing.copy_part.Goals as goal

pub returns-in_err-name-clause-err : goal.returns-in_err-name-clause-err
returns-in_err-name-clause-err g c =
    err_of c.from_residual.result (none_put c.args.logs.limits (2 ^ c.args.logs.levels) c.args.logs.stem.now c.args.logs.heads.now (items_over c.args.logs.levels 0 c.args.part) (g.F.Shelf.files c.args.files.now) c.args.writer.now)

pub returns-in-Some-clause-joined : goal.returns-in-Some-clause-joined
returns-in-Some-clause-joined g c =
    part_bad c.args.logs.limits (2 ^ c.args.logs.levels) c.args.logs.levels c.args.part (get_or c.args.logs.heads.now c.args.part 0) c.args.logs.stem.now c.args.logs.heads.now c.as_str.result.now (g.F.Shelf.files c.args.files.now) (g.F.Shelf.files c.copy_log.new.files) c.args.writer.now c.copy_log.new.writer
    c.in-Some.defect (record { part = c.args.part; defect = c.in-Some.defect }) c.requires.part refl (c.as_str.ensures.value ∙ c.in_ok-name.ensures) (rw (← c.in-Some.is) c.in_ok-defect.ensures.copied)

pub returns-in_err-name-clause-frame : goal.returns-in_err-name-clause-frame
returns-in_err-name-clause-frame g c = both-none g.F.Shelf (name_of c.args.writer.now) c.args.files.now
