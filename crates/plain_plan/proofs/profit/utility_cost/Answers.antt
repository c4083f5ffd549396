use Rattle.std.proofs.Common.{◌*◌, ◌^◌, arith}
use Rattle.stn_model.proofs.Totals.{sum_fits, total_below_step}
use mir.Val.{to_z}
use mir.Syntax.{w128}
use Rattle.plain_plan.proofs.profit.utility_cost.Goals as goal

pub loop-utility-preserved : goal.loop-utility-preserved
loop-utility-preserved c =
    let s = sum_fits (to_z w128 c.loop-utility.sum-bits) c.used-sum.result (c.loop-utility.utility * 2 ^ 117) (2 ^ 117) c.loop-utility.invariant.small c.used-sum.ensures.small (omega arith) in
    record {
      value = total_below_step _ c.loop-utility.utility _ _ _ s.0 c.loop-utility.invariant.value c.used-sum.ensures.value;
      small = rw s.0 (omega (arith, s.1));
    }
