use Rattle.std.proofs.Common.{◌≡◌, take}
use Rattle.rolled_plant.specs.Lists.{map_from}
use Rattle.rolled_plant.specs.RolledPlant.{rolled_state}
use Rattle.rolled_plant.proofs.rolling.states_from.Given as goal

abbrev pub invariant-loop-number : goal.invariant-loop-number
invariant-loop-number l = l.states ≡ map_from (rolled_state l.carried.plant.now l.carried.before.now l.carried.period) 0 (take l.number l.carried.plant.now.states)
