-- What has been added and what is still to add give the whole.
use Rattle.std.proofs.Common.{◌≡◌, ℕ, ◌*◌, ◌^◌, ◌<◌, length, drop, ◌+ℤ◌}
use Rattle.std.specs.List.{All}
use Rattle.dual_bound.specs.Line.{line_at, slot_line, IsWithin}
use Rattle.dual_bound.specs.Total.{rows_at}
use Rattle.dual_bound.proofs.lines.add_rows.Given as goal

abbrev pub invariant-loop-mult : goal.invariant-loop-mult
invariant-loop-mult l = record {
  whole : (slot v : ℕ) → slot < length l.lines → line_at (slot_line l.lines slot) v +ℤ rows_at l.rows (drop l.mult-index l.mults) slot v ≡ line_at (slot_line l.initial.lines slot) v +ℤ rows_at l.rows l.mults slot v;
  within : All (IsWithin (2 ^ 83 * l.mult-index)) l.lines;
}
