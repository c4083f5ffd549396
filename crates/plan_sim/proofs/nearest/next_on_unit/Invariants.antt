use Rattle.std.specs.Prelude.{MatchOption}
use Rattle.plan_sim.specs.Units.{IsNearest, NoneLater}
use Rattle.plan_sim.proofs.nearest.next_on_unit.Given as goal

abbrev pub invariant-loop-place : goal.invariant-loop-place
invariant-loop-place l = MatchOption l.nearest (NoneLater l.plan l.place l.a) (IsNearest l.plan l.place l.a)
