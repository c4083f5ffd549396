use Rattle.std.proofs.Common.{◌≡◌, take}
use Rattle.plant_text.proofs.tables.limits.widened.Given as goal

abbrev pub invariant-loop-number : goal.invariant-loop-number
invariant-loop-number l = l.wide ≡ take l.number-index l.numbers
