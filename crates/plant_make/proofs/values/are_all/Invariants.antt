use Rattle.std.proofs.Common.{◌≡◌, ◌==◌, drop}
use Rattle.std.specs.List.{list_all}
use Rattle.plant_make.proofs.values.are_all.Given as goal

abbrev pub invariant-loop-limit : goal.invariant-loop-limit
invariant-loop-limit l = list_all (λ k. k == l.n) (drop l.limit-index l.limits) ≡ list_all (λ k. k == l.n) l.limits
