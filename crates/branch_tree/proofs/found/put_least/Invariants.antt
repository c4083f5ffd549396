-- The values so far are the least of the domains so far.
use Rattle.std.proofs.Common.{◌≡◌, length, take}
use Rattle.row_relax.specs.Settle.{only_point}
use Rattle.branch_tree.proofs.found.put_least.Given as goal

abbrev pub invariant-loop-slot : goal.invariant-loop-slot
invariant-loop-slot l = record {
  count : length l.point ≡ length l.domains;
  so_far : take l.slot l.point ≡ only_point (take l.slot l.domains);
}
