use Rattle.std.proofs.Common.{ap, ◌∙◌, arith, rules}
use Rattle.std.specs.Prelude.{unsigned_abs}
use Rattle.std.proofs.lemmas.Int.{to_z-of_z}
use mir.Val.{SFits}
use mir.Syntax.{w128}
use Rattle.plain_plan.proofs.SmallProfit.{idle-small}
use Rattle.rolled_plant.proofs.earning.idle_profit.Goals as goal

pub returns-clause-small : goal.returns-clause-small
returns-clause-small c =
    let fits : SFits w128 c.profit_of.result = search rules in
    let is = ap unsigned_abs (to_z-of_z w128 c.profit_of.result fits ∙ c.profit_of.ensures) in
    omega (arith, is, idle-small c.args.plant.now c.requires)
