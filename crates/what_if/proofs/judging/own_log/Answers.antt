-- Bytes that are not read have their first text defect.
use Rattle.std.proofs.Common.{◌≡◌, Some, subst}
use Rattle.stn_model.specs.Points.{depth_limit}
use Rattle.log_lines.specs.declared.grammar.Limits.{Limits}
use Rattle.log_lines.specs.TextDefect.{log_text_defect}
use Rattle.what_if.proofs.OldLogs.{text_verdict}
use Rattle.what_if.proofs.judging.own_log.Goals as goal

pub returns-in-Err-clause-defect : goal.returns-in-Err-clause-defect
returns-in-Err-clause-defect c defect is =
    text_verdict c.args.rows.now (depth_limit c.args.plant.now) c.args.bytes.now defect
    (subst (λ (limits : Limits). log_text_defect limits c.args.bytes.now ≡ Some (defect.line, defect.kind)) c.limits_of.ensures (c.in-Err.ensures.defect defect is))
