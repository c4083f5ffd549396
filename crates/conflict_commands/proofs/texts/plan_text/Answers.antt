use Rattle.std.proofs.Common.{◌∙◌}
use Rattle.conflict_commands.proofs.Conflicts.{plan_answer}
use Rattle.conflict_commands.proofs.texts.plan_text.Goals as goal

pub returns : goal.returns
returns c = rw (← plan_answer c.args.plant.now c.args.profit.now c.args.plan.now c.as_str.result.now (c.as_str.ensures.value ∙ c.in_ok-head.ensures)) (let e = c.as_slice.ensures in rw e at c.with_plan.ensures)
