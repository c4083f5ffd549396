-- What is found over the plant's program is so of the plant.
use Rattle.std.proofs.Common.{List, Err, sym, ap, ◌∙◌, subst}
use Rattle.stn_model.specs.Points.{depth_limit}
use Rattle.row_kit.specs.declared.domain.Domain.{Domain}
use Rattle.sum_slots.specs.Shown.{AreRanges}
use Rattle.sum_slots.proofs.Ranges.{own-ranges}
use Rattle.valid_log.specs.declared.verdict.LogVerdict.TheVariants.{No}
use Rattle.valid_log.specs.AnyVersion.{IsAnyVerdict}
use Rattle.valid_log.proofs.Saying.{whole-is_part}
use Rattle.what_if.specs.laws.Judged.{IsAnyOwnLog}
use Rattle.what_if.proofs.OldLogs.{defective_for, valid_for}
use Rattle.what_if.proofs.reading.old_log.Goals as goal

pub any_log-requires-clause-part : goal.any_log-requires-clause-part
any_log-requires-clause-part c = whole-is_part c.args.plant.now c.in_ok-program.program c.in_ok-program.ensures.made c.in_ok-program.ensures.means

pub any_log-requires-clause-ranges : goal.any_log-requires-clause-ranges
any_log-requires-clause-ranges c = subst (AreRanges c.in_ok-program.program) (c.in_ok-program.ensures.made.root_is ∙ sym (c.as_slice.ensures ∙ c.in_ok-ranges.ensures)) (own-ranges c.in_ok-program.program)

pub returns-in-Ok : goal.returns-in-Ok
returns-in-Ok c =
    valid_for c.args.plant.now c.in_ok-program.program c.args.bytes.now c.in-Ok.log c.requires c.in_ok-program.ensures.made c.in_ok-program.ensures.means
    (subst (λ (ranges : List Domain). IsAnyOwnLog c.args.plant.now c.in_ok-program.program ranges c.args.bytes.now c.in-Ok.log) (c.as_slice.ensures ∙ c.in_ok-ranges.ensures) c.in-Ok.ensures.log)

pub returns-in-Err-Defect : goal.returns-in-Err-Defect
returns-in-Err-Defect c =
    defective_for c.args.plant.now c.in_ok-program.program c.args.bytes.now c.in-Err-Defect.defect c.requires c.in_ok-program.ensures.made c.in_ok-program.ensures.means
    (subst (λ (ranges : List Domain). IsAnyVerdict c.args.plant.now c.in_ok-program.program ranges ranges (depth_limit c.args.plant.now) c.args.bytes.now (No c.in-Err-Defect.defect)) (c.as_slice.ensures ∙ c.in_ok-ranges.ensures)
    (c.in-Err-Defect.ensures.defect c.in-Err-Defect.defect (ap Err c.in-Err-Defect.field-0-is)))
