-- The lines of the units so far stand behind the first ones.
use Rattle.std.proofs.Common.{◌≡◌, ◌+◌, ◌-◌, ◌++◌}
use Rattle.std.specs.List.{range_with_len}
use Rattle.log_parts.proofs.fronts.with_unit_lines.Given as goal

abbrev pub invariant-loop-place : goal.invariant-loop-place
invariant-loop-place l = l.all ≡ l.fn.lines ++ range_with_len (1 + (l.count - l.units)) l.place
