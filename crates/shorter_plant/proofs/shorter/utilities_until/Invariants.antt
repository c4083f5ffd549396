use Rattle.std.proofs.Common.{◌≡◌, map, take}
use Rattle.shorter_plant.specs.PlantAt.{utility_until}
use Rattle.shorter_plant.proofs.shorter.utilities_until.Given as goal

abbrev pub invariant-loop-utility : goal.invariant-loop-utility
invariant-loop-utility l = l.list ≡ map (utility_until l.horizon) (take l.utility-index l.utilities)
