use Rattle.std.proofs.Common.{◌≡◌, ◌≤◌, ◌*◌, ◌^◌, sum_by, take}
use Rattle.plan_tables.specs.Stocks.{carried_at}
use Rattle.plan_tables.proofs.stocks.carried_by_all.Given as goal

abbrev pub invariant-loop-delivery : goal.invariant-loop-delivery
invariant-loop-delivery l = record {
  value : l.sum ≡ sum_by (carried_at l.state l.time) (take l.delivery-index l.deliveries);
  small : l.sum ≤ l.delivery-index * 2 ^ 30;
}
