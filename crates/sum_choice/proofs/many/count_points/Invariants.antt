-- The count so far, times the points of the domains to come, is all points, both cut down to the greatest number.
use Rattle.std.proofs.Common.{◌≡◌, ◌≤◌, ◌-◌, ◌*◌, ◌^◌, ℕ, List, drop, min}
use Rattle.row_kit.specs.declared.domain.Domain.{Domain}
use Rattle.row_kit.specs.Points.{points_of}
use Rattle.sum_choice.proofs.many.count_points.Given as goal

pub record IsCounted (count : ℕ) (later whole : List Domain) : Type 0 where
  pub left : min (count * points_of later) (2 ^ 64 - 1) ≡ min (points_of whole) (2 ^ 64 - 1)
  pub small : count ≤ 2 ^ 64 - 1

abbrev pub invariant-loop-domain : goal.invariant-loop-domain
invariant-loop-domain l = IsCounted l.count (drop l.domain-index l.domains) l.domains
