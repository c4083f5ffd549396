use Rattle.std.proofs.Common.{◌≡◌, map, take}
use Rattle.shorter_plant.specs.PlantAt.{state_until}
use Rattle.shorter_plant.proofs.shorter.states_until.Given as goal

abbrev pub invariant-loop-state : goal.invariant-loop-state
invariant-loop-state l = l.list ≡ map (state_until l.horizon) (take l.state-index l.states)
