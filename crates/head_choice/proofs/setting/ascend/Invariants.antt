-- Each unit so far is above the one before.
use Rattle.head_choice.proofs.UnitsRise.{RiseTo}
use Rattle.head_choice.proofs.setting.ascend.Given as goal

abbrev pub invariant-loop-place : goal.invariant-loop-place
invariant-loop-place l = RiseTo l.units l.place
