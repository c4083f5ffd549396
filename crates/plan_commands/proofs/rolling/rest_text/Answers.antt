use Rattle.std.proofs.Common.{ℕ, List, ◌++◌, ap, ◌∙◌}
use Rattle.plan_text.specs.PlanLines.{plan_lines}
use Rattle.rolled_plant.specs.Kept.{moved}
use Rattle.plan_commands.proofs.Rolls.{rest_file}
use Rattle.plan_commands.proofs.rolling.rest_text.Goals as goal

pub returns : goal.returns
returns c =
    rest_file c.args.rolled.now (moved c.args.plan.now c.args.period) c.as_slice.result.now c.put_plan.new.into.items c.requires.sound c.requires.few c.requires.writable
    (c.as_slice.ensures ∙ c.in_ok-after.ensures) (c.in_ok-put_plan.ensures.ok ∙ ap (λ (x : List ℕ). x ++ plan_lines c.args.rolled.now c.as_slice.result.now) c.new-text.ensures.items) c.in_ok-put_plan.ensures.again
