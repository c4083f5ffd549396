use Rattle.std.proofs.Common.{◌≡◌, ◌≤◌, ◌*◌, ◌^◌, take}
use Rattle.std.specs.Prelude.{unsigned_abs}
use Rattle.stn_model.specs.Sums.{total}
use Rattle.stn_model.proofs.outside.paid.Given as goal

abbrev pub invariant-loop-delivery : goal.invariant-loop-delivery
invariant-loop-delivery l = record {
  value : l.sum ≡ total (λ delivery. delivery.payment) (take l.delivery-index l.deliveries);
  small : unsigned_abs l.sum ≤ l.delivery-index * 2 ^ 30;
}
