use Rattle.std.proofs.Common.{◌≡◌, take}
use Rattle.shorter_plant.specs.PlantAt.{receipts_until}
use Rattle.shorter_plant.proofs.shorter.receipts_until.Given as goal

abbrev pub invariant-loop-receipt : goal.invariant-loop-receipt
invariant-loop-receipt l = l.list ≡ receipts_until l.horizon (take l.receipt-index l.receipts)
