use Rattle.std.proofs.Common.{◌≡◌}
use Rattle.plant_make.specs.Made.{chained, gaps_of}
use Rattle.plant_make.proofs.made.gaps.Given as goal

abbrev pub invariant-loop-unit : goal.invariant-loop-unit
invariant-loop-unit l = l.gaps ≡ chained gaps_of l.unit
