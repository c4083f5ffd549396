use Rattle.std.proofs.Common.{◌≡◌, take}
use Rattle.rolled_plant.specs.RolledPlant.{deliveries_from}
use Rattle.rolled_plant.proofs.rolling.deliveries_from.Given as goal

abbrev pub invariant-loop-delivery : goal.invariant-loop-delivery
invariant-loop-delivery l = l.list ≡ deliveries_from l.period (take l.delivery-index l.deliveries)
