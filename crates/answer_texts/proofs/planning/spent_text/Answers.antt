use Rattle.std.proofs.Common.{◌∙◌}
use Rattle.plan_text.specs.PlanLines.{plan_lines}
use Rattle.answer_texts.proofs.TextLemmas.{spent_opened}
use Rattle.answer_texts.proofs.planning.spent_text.Goals as goal

pub returns : goal.returns
returns c = rw (← spent_opened c.args.profit.now c.args.cap.now c.args.lines.now (plan_lines c.args.plant.now c.args.plan.now) c.as_str.result.now (c.as_str.ensures.value ∙ c.in_ok-head.ensures)) (let e = c.as_slice.ensures in rw e at c.with_plan.ensures)
