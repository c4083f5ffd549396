-- The slots so far have the values of the point.
use Rattle.std.proofs.Common.{◌≡◌, ◌<◌, ℕ, get_or}
use Rattle.row_rooms.specs.Rooms.{IsRoomsOf}
use Rattle.row_rooms.proofs.rooms.RowRooms.moves_to.Given as goal

abbrev pub invariant-loop-slot : goal.invariant-loop-slot
invariant-loop-slot l = record {
  rooms : IsRoomsOf l.program l.self;
  reached : (k : ℕ) → k < l.slot → get_or l.self.point.items k 0 ≡ get_or l.point k 0;
}
