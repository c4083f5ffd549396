use Rattle.std.proofs.Common.{◌*◌, ◌^◌, arith}
use Rattle.stn_model.proofs.Totals.{sum_fits, total_step}
use mir.Val.{to_z}
use mir.Syntax.{w128}
use Rattle.plain_plan.proofs.profit.start_cost.Goals as goal

pub loop-start-preserved : goal.loop-start-preserved
loop-start-preserved c =
    let s = sum_fits (to_z w128 c.loop-start.sum-bits) c.cost_of_start-sum.result (c.loop-start.start-index * 2 ^ 20) (2 ^ 20) c.loop-start.invariant.small c.cost_of_start-sum.ensures.small (omega arith) in
    record {
      value = total_step _ c.args.plan.now c.loop-start.start-index _ _ _ _ c.loop-start-test.true s.0 c.loop-start.invariant.value c.cost_of_start-sum.ensures.value;
      small = rw s.0 (omega (arith, s.1));
    }
