use Rattle.plan_sim.specs.Units.{ApartUntil}
use Rattle.plan_sim.proofs.units.first_meeting.Given as goal

abbrev pub invariant-loop-second : goal.invariant-loop-second
invariant-loop-second l = ApartUntil l.plant l.plan l.first l.second
