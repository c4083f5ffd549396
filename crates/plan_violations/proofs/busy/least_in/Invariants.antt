use Rattle.plan_violations.specs.Meeting.{IsLeastIn}
use Rattle.plan_violations.proofs.busy.least_in.Given as goal

abbrev pub invariant-loop-column : goal.invariant-loop-column
invariant-loop-column l = IsLeastIn l.cells l.width l.row l.from l.column l.bound l.least
