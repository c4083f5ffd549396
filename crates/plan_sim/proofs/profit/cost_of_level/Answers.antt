use Rattle.std.proofs.Common.{◌*◌, ◌^◌, arith}
use Rattle.stn_model.proofs.Totals.{sum_fits, total_below_step}
use mir.Val.{to_z}
use mir.Syntax.{w128}
use Rattle.plan_sim.proofs.profit.cost_of_level.Goals as goal

pub loop-time-preserved : goal.loop-time-preserved
loop-time-preserved c =
    let s = sum_fits (to_z w128 c.loop-time.sum-bits) c.cost_at-sum.result (c.loop-time.time * 2 ^ 110) (2 ^ 110) c.loop-time.invariant.small c.cost_at-sum.ensures.small (omega arith) in
    record {
      value = total_below_step _ c.loop-time.time _ _ _ s.0 c.loop-time.invariant.value c.cost_at-sum.ensures.value;
      small = rw s.0 (omega (arith, s.1));
    }
