use Rattle.std.proofs.Common.{ℕ, ◌<◌, length}
use Rattle.plan_sim.specs.Units.{ApartUntil}
use Rattle.plan_sim.proofs.units.first_busy.Given as goal

abbrev pub invariant-loop-first : goal.invariant-loop-first
invariant-loop-first l = (place : ℕ) → place < l.first → ApartUntil l.plant l.plan place (length l.plan)
