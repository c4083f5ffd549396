use Rattle.std.proofs.Common.{◌≡◌}
use Rattle.plant_make.specs.Made.{chained, units_of}
use Rattle.plant_make.proofs.made.units.Given as goal

abbrev pub invariant-loop-unit : goal.invariant-loop-unit
invariant-loop-unit l = l.units ≡ chained units_of l.unit
