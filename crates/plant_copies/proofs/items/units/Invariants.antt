use Rattle.std.proofs.Common.{◌≡◌, take}
use Rattle.plant_copies.proofs.items.units.Given as goal

abbrev pub invariant-loop-unit : goal.invariant-loop-unit
invariant-loop-unit l = l.list ≡ take l.unit-index l.units
