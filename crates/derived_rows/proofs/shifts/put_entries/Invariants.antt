-- The slots of the entries so far have the shift, and the others are as they were.
use Rattle.std.proofs.Common.{◌≡◌, ℕ, ◌<◌, eqb, cond, length, drop, pos, get_or}
use Rattle.std.specs.List.{All, list_any}
use Rattle.derived_rows.specs.Line.{IsSmallShift}
use Rattle.derived_rows.proofs.shifts.put_entries.Given as goal

abbrev pub invariant-loop-entry : goal.invariant-loop-entry
invariant-loop-entry l = record {
  value : (slot : ℕ) → slot < length l.shifts → cond (list_any (λ e. eqb e.slot slot) (drop l.entry-index l.entries)) l.group.shift (get_or l.shifts slot (pos 0)) ≡ cond (list_any (λ e. eqb e.slot slot) l.entries) l.group.shift (get_or l.initial.shifts slot (pos 0));
  small : All IsSmallShift l.initial.shifts → All IsSmallShift l.shifts;
}
