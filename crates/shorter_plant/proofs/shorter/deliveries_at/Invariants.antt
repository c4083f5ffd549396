use Rattle.std.proofs.Common.{◌≡◌, map, take}
use Rattle.shorter_plant.specs.PlantAt.{delivered_at}
use Rattle.shorter_plant.proofs.shorter.deliveries_at.Given as goal

abbrev pub invariant-loop-delivery : goal.invariant-loop-delivery
invariant-loop-delivery l = l.list ≡ map (delivered_at l.horizon) (take l.delivery-index l.deliveries)
