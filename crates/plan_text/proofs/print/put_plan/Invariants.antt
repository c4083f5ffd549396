use Rattle.std.proofs.Common.{◌≡◌, take}
use Rattle.plan_text.specs.PlanLines.{plan_lines}
use Rattle.plan_text.proofs.print.put_plan.Given as goal

abbrev pub invariant-loop-start : goal.invariant-loop-start
invariant-loop-start l = l.lines.items ≡ plan_lines l.plant (take l.start-index l.plan)
