use Rattle.std.proofs.Common.{◌≡◌, ◌-◌, drop, take}
use Rattle.stn_model.specs.Load.{load}
use Rattle.stn_model.specs.Plant.{utility_at}
use Rattle.rolled_plant.specs.Lists.{map_from}
use Rattle.rolled_plant.proofs.rolling.limits_left.Given as goal

abbrev pub invariant-loop-time : goal.invariant-loop-time
invariant-loop-time l =
    l.limits ≡ map_from (λ time limit. limit - load l.plant l.before l.number time) l.period (take (l.time - l.period) (drop l.period (utility_at l.plant l.number).limits))
