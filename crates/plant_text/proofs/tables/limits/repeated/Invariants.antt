use Rattle.std.proofs.Common.{◌≡◌, replicate}
use Rattle.plant_text.proofs.tables.limits.repeated.Given as goal

abbrev pub invariant-loop : goal.invariant-loop
invariant-loop l = l.list ≡ replicate l.counter l.number
