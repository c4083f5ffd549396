-- One place more ascends.
use Rattle.head_choice.proofs.UnitsRise.{rises-on}
use Rattle.head_choice.proofs.setting.ascend.Goals as goal

pub loop-place-preserved : goal.loop-place-preserved
loop-place-preserved c = rises-on c.args.units.now c.loop-place.place c.loop-place.invariant c.loop-place-test.true c.if-units-place.false
