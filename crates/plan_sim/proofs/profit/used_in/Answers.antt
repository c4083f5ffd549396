use Rattle.std.proofs.Common.{◌<◌, length, arith}
use Rattle.stn_model.specs.Plant.{no_utility, utility_at}
use Rattle.plan_sim.proofs.profit.used_in.Goals as goal

pub returns-clause-small : goal.returns-clause-small
returns-clause-small c =
    let is = c.requires.sound.utilities c.args.utility no_utility c.requires.there in
    let inside : c.args.period < length (utility_at c.args.plant.now c.args.utility).limits = omega (arith, is.limits, c.requires.within) in
    omega (arith, c.requires.kept c.args.period c.requires.within c.args.utility c.requires.there, is.limit c.args.period 0 inside)
