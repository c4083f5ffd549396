use Rattle.std.proofs.Common.{◌∙◌, arith, rules}
use Rattle.std.proofs.lemmas.Int.{to_z-of_z}
use mir.Val.{SFits}
use mir.Syntax.{w128}
use Rattle.rolled_plant.proofs.Levels.{level_later}
use Rattle.rolled_plant.proofs.arrivals.level_before.Goals as goal

pub returns-else-carried-eq0-clause-value : goal.returns-else-carried-eq0-clause-value
returns-else-carried-eq0-clause-value c =
    let fits : SFits w128 c.level_at.result = search rules in
    to_z-of_z w128 c.level_at.result fits ∙ c.level_at.ensures.value
    ∙ level_later c.args.carried.now.plant.now c.args.carried.now.before.now c.args.carried.now.stocks.now c.args.state c.args.carried.now.period c.requires.carried.table c.requires.there (omega arith) (omega (arith, c.requires.carried.within))
