use Rattle.std.proofs.Common.{◌≡◌, ◌++◌}
use Rattle.unit_rows.specs.Busy.{unit_busy_rows}
use Rattle.unit_rows.proofs.busy.push_unit_rows.Given as goal

abbrev pub invariant-loop-period : goal.invariant-loop-period
invariant-loop-period l = l.into.items ≡ l.initial.into.items ++ unit_busy_rows l.plant l.unit l.period
