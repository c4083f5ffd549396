use Rattle.std.proofs.Common.{◌*◌, ◌^◌, arith}
use Rattle.stn_model.proofs.Totals.{sum_fits, total_below_step}
use mir.Val.{to_z}
use mir.Syntax.{w128}
use Rattle.plan_sim.proofs.profit.cost_of_levels.Goals as goal

pub loop-state-preserved : goal.loop-state-preserved
loop-state-preserved c =
    let s = sum_fits (to_z w128 c.loop-state.sum-bits) c.cost_of_level-sum.result (c.loop-state.state * (336 * 2 ^ 110)) (336 * 2 ^ 110) c.loop-state.invariant.small c.cost_of_level-sum.ensures.small (omega arith) in
    record {
      value = total_below_step _ c.loop-state.state _ _ _ s.0 c.loop-state.invariant.value c.cost_of_level-sum.ensures.value;
      small = rw s.0 (omega (arith, s.1));
    }
