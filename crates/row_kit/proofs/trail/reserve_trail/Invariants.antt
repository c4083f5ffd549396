-- The room so far: the values of the domains so far.
use Rattle.std.proofs.Common.{◌≡◌, ◌*◌, ◌≤◌, take}
use Rattle.std.specs.List.{sum_by}
use Rattle.row_kit.specs.Domain.{count_of}
use Rattle.row_kit.proofs.trail.reserve_trail.Given as goal

abbrev pub invariant-loop-domain : goal.invariant-loop-domain
invariant-loop-domain l = record {
  counted : l.room ≡ sum_by count_of (take l.domain-index l.domains);
  small : l.room ≤ 257 * l.domain-index;
}
