use Rattle.std.proofs.Common.{◌≡◌, map, take}
use Rattle.shorter_plant.specs.PlantAt.{unit_until}
use Rattle.shorter_plant.proofs.shorter.units_until.Given as goal

abbrev pub invariant-loop-unit : goal.invariant-loop-unit
invariant-loop-unit l = l.list ≡ map (unit_until l.horizon) (take l.unit-index l.units)
