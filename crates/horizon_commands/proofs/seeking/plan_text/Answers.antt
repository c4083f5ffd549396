use Rattle.std.proofs.Common.{◌∙◌}
use Rattle.horizon_commands.proofs.Horizons.{found_text}
use Rattle.horizon_commands.proofs.seeking.plan_text.Goals as goal

pub returns : goal.returns
returns c = rw (← found_text c.args.plant.now c.args.horizon c.args.profit.now c.args.plan.now c.as_str.result.now (c.as_str.ensures.value ∙ c.in_ok-head.ensures)) (let e = c.as_slice.ensures in rw e at c.with_plan.ensures)
