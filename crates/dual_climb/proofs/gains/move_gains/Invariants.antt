-- What has been moved and what is still to move give the whole; the most of each line is held.
use Rattle.std.proofs.Common.{◌≡◌, ◌+◌, ◌*◌, ◌^◌, ◌≤◌, ◌<◌, ℕ, drop, length, pos, ◌+ℤ◌, ◌-ℤ◌, ◌*ℤ◌}
use Rattle.std.specs.List.{All}
use Rattle.row_kit.specs.Area.{present}
use Rattle.row_kit.specs.Row.{entry_at}
use Rattle.dual_bound.specs.Line.{line_at, slot_line, IsWithin}
use Rattle.dual_climb.specs.laws.Held.{AreMost}
use Rattle.dual_climb.proofs.gains.move_gains.Given as goal

abbrev pub invariant-loop-entry : goal.invariant-loop-entry
invariant-loop-entry l =
    let own = λ (slot v : ℕ). pos l.own *ℤ entry_at (drop l.entry-index l.entry-items) slot v in
    let other = λ (slot v : ℕ). pos l.factor *ℤ entry_at (drop l.entry-index l.entry-items) slot v in
    record {
      items : l.entry-items ≡ l.row.entries;
      few : length l.entry-items ≤ 4096;
      slots : length l.gains.lines.items ≡ length (present l.area);
      within : All (IsWithin (2 ^ 93 + 2 ^ 72 * l.entry-index)) l.gains.lines.items;
      most : AreMost (present l.area) l.gains.lines.items l.gains.most.items;
      whole : (slot v : ℕ) → slot < length (present l.area) → (line_at (slot_line l.gains.lines.items slot) v +ℤ own slot v) -ℤ other slot v ≡ (line_at (slot_line l.initial.gains.lines.items slot) v +ℤ (pos l.own *ℤ entry_at l.row.entries slot v)) -ℤ (pos l.factor *ℤ entry_at l.row.entries slot v);
    }
