use Rattle.std.proofs.Common.{◌*◌, ◌^◌, arith}
use Rattle.stn_model.proofs.Totals.{sum_fits, total_below_step}
use mir.Val.{to_z}
use mir.Syntax.{w128}
use Rattle.plan_sim.proofs.profit.cost_of_uses.Goals as goal

pub loop-utility-preserved : goal.loop-utility-preserved
loop-utility-preserved c =
    let s = sum_fits (to_z w128 c.loop-utility.sum-bits) c.cost_of_use-sum.result (c.loop-utility.utility * 2 ^ 119) (2 ^ 119) c.loop-utility.invariant.small c.cost_of_use-sum.ensures.small (omega arith) in
    record {
      value = total_below_step _ c.loop-utility.utility _ _ _ s.0 c.loop-utility.invariant.value c.cost_of_use-sum.ensures.value;
      small = rw s.0 (omega (arith, s.1));
    }
