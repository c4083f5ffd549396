use Rattle.std.proofs.Common.{◌≡◌, drop}
use Rattle.std.specs.List.{list_any}
use Rattle.plan_picture.specs.Graphs.{moves}
use Rattle.plan_picture.proofs.levels.is_in_plan.Given as goal

abbrev pub invariant-loop-start : goal.invariant-loop-start
invariant-loop-start l = list_any (moves l.plant l.state) (drop l.start-index l.plan) ≡ list_any (moves l.plant l.state) l.plan
