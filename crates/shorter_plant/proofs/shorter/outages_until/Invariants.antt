use Rattle.std.proofs.Common.{◌≡◌, take}
use Rattle.shorter_plant.specs.PlantAt.{outages_until}
use Rattle.shorter_plant.proofs.shorter.outages_until.Given as goal

abbrev pub invariant-loop-outage : goal.invariant-loop-outage
invariant-loop-outage l = l.list ≡ outages_until l.horizon (take l.outage-index l.outages)
