use Rattle.std.proofs.Common.{◌≡◌, ◌++◌}
use Rattle.std.specs.Prelude.{replicate}
use Rattle.rolled_plant.specs.Receipts.{one_receipt}
use Rattle.rolled_plant.proofs.receipts.push_whole.Given as goal

abbrev pub invariant-loop-k : goal.invariant-loop-k
invariant-loop-k l = l.receipts ≡ l.initial.receipts ++ replicate l.k (one_receipt l.state l.time 1000000000)
