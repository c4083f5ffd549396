use Rattle.std.proofs.Common.{◌≡◌, take, if◌then◌else◌}
use Rattle.stn_model.specs.Sums.{greatest_by}
use Rattle.stn_model.specs.Plant.{is_between}
use Rattle.stn_model.proofs.questions.gap_of.Given as goal

abbrev pub invariant-loop-gap : goal.invariant-loop-gap
invariant-loop-gap l = l.longest ≡ greatest_by (λ gap. if is_between l.unit l.from l.to gap then gap.periods else 0) (take l.gap-index l.gap-items)
