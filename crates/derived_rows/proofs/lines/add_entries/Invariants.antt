-- What has been added and what is still to add give the whole.
use Rattle.std.proofs.Common.{◌≡◌, ℕ, ◌+◌, ◌*◌, ◌^◌, ◌<◌, length, drop, ◌+ℤ◌, ◌*ℤ◌}
use Rattle.std.specs.List.{All}
use Rattle.derived_rows.specs.Line.{line_at, slot_line, IsWithin}
use Rattle.row_kit.specs.Row.{entry_at}
use Rattle.derived_rows.proofs.lines.add_entries.Given as goal

abbrev pub invariant-loop-entry : goal.invariant-loop-entry
invariant-loop-entry l = record {
  whole : (slot v : ℕ) → slot < length l.lines → line_at (slot_line l.lines slot) v +ℤ (l.factor.by *ℤ entry_at (drop l.entry-index l.entries) slot v) ≡ line_at (slot_line l.initial.lines slot) v +ℤ (l.factor.by *ℤ entry_at l.entries slot v);
  within : (most : ℕ) → All (IsWithin most) l.initial.lines → All (IsWithin (most + 2 ^ 55 * l.entry-index)) l.lines;
}
