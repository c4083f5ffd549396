use Rattle.std.proofs.Common.{◌≡◌, max, drop}
use Rattle.stn_model.specs.Sums.{greatest_by}
use Rattle.plan_picture.proofs.levels.highest_limit.Given as goal

abbrev pub invariant-loop-limit : goal.invariant-loop-limit
invariant-loop-limit l = max l.highest (greatest_by (λ limit. limit) (drop l.limit-index l.limits)) ≡ greatest_by (λ limit. limit) l.limits
