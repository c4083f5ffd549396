-- What the columns count and what the entries that are left count are what they count with all of them.
use Rattle.std.proofs.Common.{◌≡◌, ◌<◌, ℕ, ◌+ℤ◌, drop, length}
use Rattle.std.specs.List.{All}
use Rattle.row_rooms.specs.Rooms.{cells_at, column_at, entries_in}
use Rattle.row_rooms.proofs.rooms.put_row.Given as goal

abbrev pub invariant-loop-entry : goal.invariant-loop-entry
invariant-loop-entry l = record {
  as_many : length l.columns.items ≡ length l.initial.columns.items;
  counts : (slot row value : ℕ) → slot < length l.initial.columns.items
      → cells_at (column_at l.columns.items slot) row value +ℤ entries_in l.number (drop l.entry-index l.entries) row slot value
      ≡ cells_at (column_at l.initial.columns.items slot) row value +ℤ entries_in l.number l.entries row slot value;
  within : (most : ℕ) → l.number < most → All (All (λ cell. cell.row < most)) l.initial.columns.items → All (All (λ cell. cell.row < most)) l.columns.items;
}
