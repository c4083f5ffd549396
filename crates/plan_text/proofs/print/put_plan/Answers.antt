use Rattle.std.proofs.Common.{arith, rules}
use Rattle.std.proofs.lemmas.Grind.{common_steps}
use Rattle.plan_text.specs.PlanLines.{plan_lines}
use Rattle.plan_text.proofs.Again.{ReadsBack-lines}
use Rattle.plan_text.proofs.Short.{SaysAgain-lines}
use Rattle.plan_text.proofs.print.put_plan.Goals as goal

pub loop-start-init : goal.loop-start-init
unfolding plan_lines
loop-start-init c = search rules

pub loop-start-preserved : goal.loop-start-preserved
unfolding plan_lines
loop-start-preserved c = grind (arith, common_steps)

pub returns-clause-again : goal.returns-clause-again
returns-clause-again c = SaysAgain-lines c.args.plant.now c.args.plan.now

pub returns-clause-after_comments : goal.returns-clause-after_comments
returns-clause-after_comments c = ReadsBack-lines c.args.plant.now c.args.plan.now

pub returns-in_err-put_line-clause-again : goal.returns-in_err-put_line-clause-again
returns-in_err-put_line-clause-again c = SaysAgain-lines c.args.plant.now c.args.plan.now

pub returns-in_err-put_line-clause-after_comments : goal.returns-in_err-put_line-clause-after_comments
returns-in_err-put_line-clause-after_comments c = ReadsBack-lines c.args.plant.now c.args.plan.now
