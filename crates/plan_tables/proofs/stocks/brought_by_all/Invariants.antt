use Rattle.std.proofs.Common.{◌≡◌, ◌≤◌, ◌*◌, ◌^◌, sum_by, take}
use Rattle.plan_tables.specs.Stocks.{brought_at}
use Rattle.plan_tables.proofs.stocks.brought_by_all.Given as goal

abbrev pub invariant-loop-receipt : goal.invariant-loop-receipt
invariant-loop-receipt l = record {
  value : l.sum ≡ sum_by (brought_at l.state l.time) (take l.receipt-index l.receipts);
  small : l.sum ≤ l.receipt-index * 2 ^ 30;
}
