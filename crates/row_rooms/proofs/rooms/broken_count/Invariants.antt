-- So many of the rows so far are broken.
use Rattle.std.proofs.Common.{◌≡◌, ◌≤◌, take}
use Rattle.std.specs.List.{sum_by}
use Rattle.row_rooms.specs.Rooms.{broken_by}
use Rattle.row_rooms.proofs.rooms.broken_count.Given as goal

abbrev pub invariant-loop-room : goal.invariant-loop-room
invariant-loop-room l = record {
  counted : l.count ≡ sum_by broken_by (take l.room-index l.rooms);
  few : l.count ≤ l.room-index;
}
