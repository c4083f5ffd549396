use Rattle.std.proofs.Common.{◌≡◌, arith, ◌∙◌}
use Rattle.std.specs.Prelude.{pos, ◌-ℤ◌}
use Rattle.std.proofs.lemmas.Int.{ints}
use mir.Val.{to_z, of_z}
use mir.Syntax.{w128}
use Rattle.plan_sim.proofs.Earned.{profit_is}
use Rattle.plan_sim.proofs.profit.profit_of.Goals as goal

pub returns-clause-value : goal.returns-clause-value
returns-clause-value c =
    let plain : to_z w128 (of_z w128 (to_z w128 (of_z w128 c.less_starts.result) -ℤ to_z w128 c.change_costs.result)) ≡ c.less_starts.result -ℤ pos c.change_costs.result = omega (arith, ints) in
    plain ∙ profit_is c.args.plant.now c.args.plan.now c.args.stocks.now c.args.loads.now c.requires.stocks c.requires.loads c.less_starts.result c.change_costs.result c.less_starts.ensures.value c.change_costs.ensures.value
