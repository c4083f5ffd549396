use Rattle.std.proofs.Common.{◌*◌, ◌^◌, arith}
use Rattle.stn_model.proofs.Totals.{sum_fits, total_step}
use mir.Val.{to_z}
use mir.Syntax.{w128}
use Rattle.stn_model.proofs.outside.paid.Goals as goal

pub loop-delivery-preserved : goal.loop-delivery-preserved
loop-delivery-preserved c =
    let s = sum_fits (to_z w128 c.loop-delivery.sum-bits) c.payment-sum.result (c.loop-delivery.delivery-index * 2 ^ 30) (2 ^ 30) c.loop-delivery.invariant.small c.payment-sum.ensures.small (omega arith) in
    record {
      value = total_step _ c.args.deliveries.now c.loop-delivery.delivery-index _ _ _ _ c.loop-delivery-test.true s.0 c.loop-delivery.invariant.value c.payment-sum.ensures.value;
      small = rw s.0 (omega (arith, s.1));
    }
