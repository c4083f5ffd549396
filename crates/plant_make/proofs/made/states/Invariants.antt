use Rattle.std.proofs.Common.{◌≡◌}
use Rattle.plant_make.specs.Made.{chained, states_of}
use Rattle.plant_make.proofs.made.states.Given as goal

abbrev pub invariant-loop-chain : goal.invariant-loop-chain
invariant-loop-chain l = l.states ≡ chained (states_of l.seed) l.chain
