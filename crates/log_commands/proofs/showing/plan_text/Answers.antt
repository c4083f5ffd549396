-- The comment and the lines of the plan are the text on the claim.
use Rattle.std.proofs.Common.{List, ◌++◌, ap, ◌∙◌}
use Rattle.stn_model.specs.declared.start.Start.{Start}
use Rattle.plan_text.specs.PlanLines.{plan_lines}
use Rattle.log_commands.proofs.PlanTexts.{shown-text}
use Rattle.log_commands.proofs.showing.plan_text.Goals as goal

pub returns : goal.returns
returns c =
    shown-text c.args.plant.now c.args.claim.now c.in_ok-plan.plan c.in_ok-text.text.items c.put_plan.new.into.items c.requires.sound c.in_ok-plan.ensures.plan c.in_ok-plan.ensures.writable c.in_ok-plan.ensures.few c.in_money.ensures
    c.in_ok-text.ensures (c.in_ok-put_plan.ensures.ok ∙ ap (λ (plan : List Start). c.in_ok-text.text.items ++ plan_lines c.args.plant.now plan) c.as_slice.ensures)
