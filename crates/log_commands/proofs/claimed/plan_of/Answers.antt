-- The plan of the values is that of the point, which is feasible.
use Rattle.std.proofs.Common.{◌∙◌, ap, length}
use Rattle.log_commands.proofs.PlanTexts.{padded-if, writable-if, few-if}
use Rattle.log_commands.proofs.claimed.plan_of.Goals as goal

pub returns-clause-plan : goal.returns-clause-plan
returns-clause-plan c = padded-if c.args.plant.now c.args.point.now c.deref.result.now c.slot_count.result c.plan_of.result (c.slot_count.ensures ∙ ap length c.in_ok-grid.ensures.slots) (c.deref.ensures.value ∙ c.in_ok-values.ensures.values) c.plan_of.ensures

pub returns-clause-writable : goal.returns-clause-writable
returns-clause-writable c =
    writable-if c.args.plant.now c.args.point.now c.plan_of.result c.requires.sound c.requires.feasible
    (padded-if c.args.plant.now c.args.point.now c.deref.result.now c.slot_count.result c.plan_of.result (c.slot_count.ensures ∙ ap length c.in_ok-grid.ensures.slots) (c.deref.ensures.value ∙ c.in_ok-values.ensures.values) c.plan_of.ensures)

pub returns-clause-few : goal.returns-clause-few
returns-clause-few c =
    few-if c.args.plant.now c.args.point.now c.plan_of.result c.requires.sound c.requires.feasible
    (padded-if c.args.plant.now c.args.point.now c.deref.result.now c.slot_count.result c.plan_of.result (c.slot_count.ensures ∙ ap length c.in_ok-grid.ensures.slots) (c.deref.ensures.value ∙ c.in_ok-values.ensures.values) c.plan_of.ensures)
