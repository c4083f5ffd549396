use Rattle.std.proofs.Common.{◌≡◌, take}
use Rattle.rolled_plant.specs.Lists.{map_from}
use Rattle.rolled_plant.specs.RolledPlant.{rolled_unit}
use Rattle.rolled_plant.proofs.holding.units_from.Given as goal

abbrev pub invariant-loop-number : goal.invariant-loop-number
invariant-loop-number l = l.units ≡ map_from (rolled_unit l.plant l.before l.period) 0 (take l.number l.plant.units)
