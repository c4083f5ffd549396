use Rattle.std.proofs.Common.{◌*◌, ◌^◌, arith}
use Rattle.stn_model.proofs.Totals.{sum_fits, total_below_step}
use mir.Val.{to_z}
use mir.Syntax.{w128}
use Rattle.plan_sim.proofs.profit.cost_of_use.Goals as goal

pub loop-period-preserved : goal.loop-period-preserved
loop-period-preserved c =
    let s = sum_fits (to_z w128 c.loop-period.sum-bits) c.cost_in-sum.result (c.loop-period.period * 2 ^ 110) (2 ^ 110) c.loop-period.invariant.small c.cost_in-sum.ensures.small (omega arith) in
    record {
      value = total_below_step _ c.loop-period.period _ _ _ s.0 c.loop-period.invariant.value c.cost_in-sum.ensures.value;
      small = rw s.0 (omega (arith, s.1));
    }
