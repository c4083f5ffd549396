use Rattle.std.proofs.Common.{◌≡◌}
use Rattle.rolled_plant.specs.Lists.{listed_below}
use Rattle.rolled_plant.specs.Receipts.{receipts_at}
use Rattle.rolled_plant.proofs.receipts.receipts_from.Given as goal

abbrev pub invariant-loop-time : goal.invariant-loop-time
invariant-loop-time l = l.receipts ≡ listed_below (receipts_at l.carried.plant.now l.carried.before.now l.carried.period) l.time
