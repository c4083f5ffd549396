use Rattle.std.proofs.Common.{◌≡◌, ◌≤◌, ◌*◌, ◌^◌, length}
use Rattle.rolled_plant.specs.Lists.{listed_below}
use Rattle.rolled_plant.specs.Receipts.{receipts_at}
use Rattle.rolled_plant.proofs.receipts.receipt_count.Given as goal

abbrev pub invariant-loop-time : goal.invariant-loop-time
invariant-loop-time l = record {
  value : l.count ≡ length (listed_below (receipts_at l.carried.plant.now l.carried.before.now l.carried.period) l.time);
  small : l.count ≤ l.time * 2 ^ 72;
}
