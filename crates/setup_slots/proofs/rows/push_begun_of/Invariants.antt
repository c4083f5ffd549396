-- The rows, and those of the periods so far.
use Rattle.std.proofs.Common.{◌≡◌, ◌++◌}
use Rattle.setup_slots.specs.Rows.{begun_rows}
use Rattle.setup_slots.proofs.rows.push_begun_of.Given as goal

abbrev pub invariant-loop-period : goal.invariant-loop-period
invariant-loop-period l = l.rows.items ≡ l.initial.rows.items ++ begun_rows l.setups l.period l.task
