use Rattle.std.proofs.Common.{◌≡◌, take}
use Rattle.stn_model.specs.Sums.{greatest_by}
use Rattle.stn_model.proofs.questions.duration.Given as goal

abbrev pub invariant-loop-output : goal.invariant-loop-output
invariant-loop-output l = l.longest ≡ greatest_by (λ output. output.delay) (take l.output-index l.output-items)
