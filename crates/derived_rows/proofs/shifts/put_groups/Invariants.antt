-- The groups from the last one looked at on have their shifts.
use Rattle.std.proofs.Common.{◌≡◌, ℕ, ◌<◌, ◌≤◌, length, drop, pos, get_or}
use Rattle.std.specs.List.{All}
use Rattle.derived_rows.specs.Groups.{shift_at}
use Rattle.derived_rows.specs.Line.{IsSmallShift}
use Rattle.derived_rows.proofs.shifts.put_groups.Given as goal

abbrev pub invariant-loop-left : goal.invariant-loop-left
invariant-loop-left l = record {
  within : l.left ≤ length l.groups;
  value : (slot : ℕ) → slot < length l.shifts → get_or l.shifts slot (pos 0) ≡ shift_at l.rows (drop l.left l.groups) slot;
  small : All IsSmallShift l.initial.shifts → All IsSmallShift l.shifts;
}

abbrev pub decreases-loop-left : goal.decreases-loop-left
decreases-loop-left l = l.left
