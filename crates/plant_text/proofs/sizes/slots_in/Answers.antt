use Rattle.std.proofs.Common.{◌≡◌, arith}
use Rattle.stn_model.specs.Points.{slots_of}
use Rattle.plant_text.proofs.sizes.slots_in.Goals as goal

pub returns-clause-count : goal.returns-clause-count
unfolding slots_of
returns-clause-count c = let at_end : c.loop-period.period ≡ c.args.plant.now.periods = omega arith in rw at_end at c.loop-period.invariant.counted
