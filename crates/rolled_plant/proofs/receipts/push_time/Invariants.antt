use Rattle.std.proofs.Common.{◌≡◌, ◌++◌}
use Rattle.rolled_plant.specs.Lists.{listed_below}
use Rattle.rolled_plant.specs.Receipts.{coming, receipts_of}
use Rattle.rolled_plant.proofs.receipts.push_time.Given as goal

abbrev pub invariant-loop-state : goal.invariant-loop-state
invariant-loop-state l = l.receipts ≡ l.initial.receipts ++ listed_below (λ state. receipts_of state l.time (coming l.carried.plant.now l.carried.before.now l.carried.period state l.time)) l.state
