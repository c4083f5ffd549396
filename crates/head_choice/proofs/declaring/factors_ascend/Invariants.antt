-- Each row so far is above the one before.
use Rattle.head_choice.proofs.FactorsRise.{AscendTo}
use Rattle.head_choice.proofs.declaring.factors_ascend.Given as goal

abbrev pub invariant-loop-place : goal.invariant-loop-place
invariant-loop-place l = AscendTo l.factors l.place
