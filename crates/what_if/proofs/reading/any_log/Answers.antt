-- A log without a head is one with none, and a defect behind a head is one of the log.
use Rattle.std.proofs.Common.{subst}
use Rattle.stn_model.specs.Points.{depth_limit}
use Rattle.sum_lines.specs.Front.{IsFront}
use Rattle.sum_lines.specs.declared.head.Front.TheVariants.{Headed}
use Rattle.valid_log.specs.declared.verdict.LogVerdict.TheVariants.{No}
use Rattle.valid_log.specs.Heads.{limits_with}
use Rattle.what_if.proofs.OldLogs.{head_verdict, plain_valid_if}
use Rattle.what_if.proofs.reading.any_log.Goals as goal

pub returns-in-Ok-Plain-clause-log : goal.returns-in-Ok-Plain-clause-log
returns-in-Ok-Plain-clause-log c =
    plain_valid_if c.args.plant.now c.args.program c.args.ranges.now c.args.bytes.now c.plain_log.result (subst (IsFront (limits_with c.args.program (depth_limit c.args.plant.now) 0) c.args.bytes.now) c.in-Ok-Plain.field-0-is c.in-Ok-Plain.ensures.front) c.plain_log.ensures.head
    c.plain_log.ensures.log

pub returns-in-Ok-Headed-clause-defect : goal.returns-in-Ok-Headed-clause-defect
returns-in-Ok-Headed-clause-defect c defect is =
    let head = c.in-Ok-Headed.head in
    record {
      front = Headed head;
      stands = subst (IsFront (limits_with c.args.program (depth_limit c.args.plant.now) 0) c.args.bytes.now) c.in-Ok-Headed.field-0-is c.in-Ok-Headed.ensures.front;
      right = head_verdict c.args.plant.now c.args.program c.args.ranges.now c.args.bytes.now head (No defect) (c.headed_log.ensures.defect defect is);
    }
