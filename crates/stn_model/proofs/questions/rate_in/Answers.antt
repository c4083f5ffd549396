use Rattle.std.proofs.Common.{arith}
use Rattle.std.proofs.lemmas.List.{get_or_default, get_or_past}
use Rattle.stn_model.specs.Plant.{rate_in}
use Rattle.stn_model.proofs.questions.rate_in.Goals as goal

pub returns-then-period-len : goal.returns-then-period-len
unfolding rate_in
returns-then-period-len c =
    let same = get_or_default c.args.utility.now.rates c.args.period c.args.utility.now.rate c.get-rate.result.now (omega arith) in
    grind (arith, same)

pub returns-else-period-len : goal.returns-else-period-len
unfolding rate_in
returns-else-period-len c =
    let past = get_or_past c.args.utility.now.rates c.args.period c.args.utility.now.rate (omega arith) in
    grind (arith, past)
