use Rattle.std.proofs.Common.{◌≡◌, ◌∷◌, map, take}
use Rattle.plan_tables.specs.Units.{first_cleaning, cleaning_after}
use Rattle.plan_tables.proofs.cleanings.cleanings_of.Given as goal

abbrev pub invariant-loop-a : goal.invariant-loop-a
invariant-loop-a l = l.found.items ≡ first_cleaning l.plant l.batches l.unit ∷ map (cleaning_after l.plant l.batches) (take l.a-index l.batches)
