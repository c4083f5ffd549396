use Rattle.std.proofs.Common.{◌≡◌, take, if◌then◌else◌}
use Rattle.stn_model.specs.Sums.{greatest_by}
use Rattle.stn_model.specs.Plant.{is_between}
use Rattle.stn_model.proofs.questions.change_cost.Given as goal

abbrev pub invariant-loop-gap : goal.invariant-loop-gap
invariant-loop-gap l = l.most ≡ greatest_by (λ gap. if is_between l.unit l.from l.to gap then gap.cost else 0) (take l.gap-index l.gap-items)
