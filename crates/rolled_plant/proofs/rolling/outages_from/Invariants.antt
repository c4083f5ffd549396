use Rattle.std.proofs.Common.{◌≡◌, take}
use Rattle.rolled_plant.specs.RolledPlant.{outages_from}
use Rattle.rolled_plant.proofs.rolling.outages_from.Given as goal

abbrev pub invariant-loop-outage : goal.invariant-loop-outage
invariant-loop-outage l = l.list ≡ outages_from l.period (take l.outage-index l.outages)
