-- What is left and the cells that are left change each row's room as all of them do.
use Rattle.std.proofs.Common.{◌≡◌, ◌+◌, ◌*◌, ◌^◌, ◌≤◌, ◌<◌, ℕ, ◌+ℤ◌, ◌-ℤ◌, unsigned_abs, drop, length}
use Rattle.std.specs.List.{All, sum_by}
use Rattle.row_rooms.specs.Rooms.{cells_at, broken_by, room_at}
use Rattle.row_rooms.proofs.rooms.change.Given as goal

abbrev pub invariant-loop-cell : goal.invariant-loop-cell
invariant-loop-cell l = record {
  left : (row : ℕ) → row < length l.rooms
      → room_at l.rooms row +ℤ cells_at (drop l.cell-index l.cells) row l.former -ℤ cells_at (drop l.cell-index l.cells) row l.value
      ≡ room_at l.initial.rooms row +ℤ cells_at l.cells row l.former -ℤ cells_at l.cells row l.value;
  small : All (λ room. unsigned_abs room ≤ 2 ^ 64 + 2 ^ 41 * l.cell-index) l.rooms;
  broken : l.count ≡ sum_by broken_by l.rooms;
}
