-- The entries of the slots so far are below.
use Rattle.std.proofs.Common.{ℕ, ◌<◌, ◌≤◌}
use Rattle.row_kit.specs.Domain.{Holds, domain_at}
use Rattle.derived_rows.specs.Line.{IsBelow}
use Rattle.derived_rows.specs.Table.{parts_at}
use Rattle.derived_rows.proofs.table.Table.are_below.Given as goal

abbrev pub invariant-loop-slot : goal.invariant-loop-slot
invariant-loop-slot l = (slot value : ℕ) → slot < l.slot → 1 ≤ value → Holds (domain_at l.domains slot) value → IsBelow l.derived (parts_at l.self slot) value
