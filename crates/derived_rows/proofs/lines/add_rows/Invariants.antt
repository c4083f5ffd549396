-- What has been added and what is still to add give the whole.
use Rattle.std.proofs.Common.{◌≡◌, ℕ, ◌*◌, ◌^◌, ◌<◌, length, drop, ◌+ℤ◌}
use Rattle.std.specs.List.{All}
use Rattle.derived_rows.specs.Derived.{mixed_at}
use Rattle.derived_rows.specs.Line.{line_at, slot_line, IsWithin}
use Rattle.derived_rows.proofs.lines.add_rows.Given as goal

abbrev pub invariant-loop-factor : goal.invariant-loop-factor
invariant-loop-factor l = record {
  whole : (slot v : ℕ) → slot < length l.lines → line_at (slot_line l.lines slot) v +ℤ mixed_at l.rows (drop l.factor-index l.factors) slot v ≡ line_at (slot_line l.initial.lines slot) v +ℤ mixed_at l.rows l.factors slot v;
  within : All (IsWithin (2 ^ 67 * l.factor-index)) l.lines;
}
