use Rattle.std.proofs.Common.{◌≡◌}
use Rattle.plant_make.specs.Made.{stepped}
use Rattle.plant_make.proofs.numbers.stepped.Given as goal

abbrev pub invariant-loop-step : goal.invariant-loop-step
invariant-loop-step l = l.x ≡ stepped l.seed l._step
