-- What stands behind the setups gives the defect, or the log behind it is looked at.
use Rattle.std.proofs.Common.{◌≤◌, arith, subst}
use Rattle.stn_model.specs.Points.{depth_limit}
use Rattle.derivation_lines.specs.declared.tail.TailFront.TheVariants.{Whole}
use Rattle.valid_log.specs.Heads.{IsTail}
use Rattle.plant_check.proofs.HeadJudged.{held_small}
use Rattle.what_if.proofs.OldLogs.{set_up_valid}
use Rattle.what_if.proofs.headed.set_up_log.Goals as goal

pub tail_of-requires-clause-rows : goal.tail_of-requires-clause-rows
tail_of-requires-clause-rows c = let small = held_small c.args.plant.now c.args.program (depth_limit c.args.plant.now) c.args.setups c.requires.front.held in omega (arith, small.rows)

pub returns-in-Whole-clause-log : goal.returns-in-Whole-clause-log
returns-in-Whole-clause-log c =
    let setups = c.args.setups in
    set_up_valid c.args.plant.now c.args.program c.args.ranges.now c.args.bytes.now setups c.in-Whole.tail c.tailed_log.result
    (subst (IsTail setups.limits setups.head c.args.bytes.now) c.in-Whole.is c.in_ok-tail.ensures.follows) c.tailed_log.ensures.log

pub returns-in-Whole-clause-defect : goal.returns-in-Whole-clause-defect
returns-in-Whole-clause-defect c defect is =
    let setups = c.args.setups in
    record {
      tail = Whole c.in-Whole.tail;
      follows = subst (IsTail setups.limits setups.head c.args.bytes.now) c.in-Whole.is c.in_ok-tail.ensures.follows;
      right = c.tailed_log.ensures.defect defect is;
    }
