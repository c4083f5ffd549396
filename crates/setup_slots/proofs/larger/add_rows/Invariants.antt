-- The rows, and those of the setup so far.
use Rattle.std.proofs.Common.{◌≡◌, ◌++◌, map, take}
use Rattle.setup_slots.specs.Rows.{row_over}
use Rattle.setup_slots.proofs.larger.add_rows.Given as goal

abbrev pub invariant-loop-row : goal.invariant-loop-row
invariant-loop-row l = l.into ≡ l.initial.into ++ map (row_over l.slots l.setups l.unit l.first) (take l.row-index l.rows)
