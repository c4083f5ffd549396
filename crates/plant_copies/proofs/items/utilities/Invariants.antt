use Rattle.std.proofs.Common.{◌≡◌, take}
use Rattle.plant_copies.proofs.items.utilities.Given as goal

abbrev pub invariant-loop-utility : goal.invariant-loop-utility
invariant-loop-utility l = l.list ≡ take l.utility-index l.utilities
