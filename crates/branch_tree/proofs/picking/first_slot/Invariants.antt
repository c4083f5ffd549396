-- The slots so far have one value at most.
use Rattle.std.proofs.Common.{ℕ, ◌<◌}
use Rattle.row_kit.specs.Area.{present}
use Rattle.row_kit.specs.Domain.{count_of, domain_at}
use Rattle.branch_tree.proofs.picking.first_slot.Given as goal

abbrev pub invariant-loop-slot : goal.invariant-loop-slot
invariant-loop-slot l = (slot : ℕ) → slot < l.slot → count_of (domain_at (present l.area) slot) < 2
