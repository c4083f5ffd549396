-- The columns of the rows so far.
use Rattle.std.proofs.Common.{◌≡◌, length, take}
use Rattle.row_rooms.specs.Rooms.{AreColumns}
use Rattle.row_rooms.proofs.rooms.columns_of.Given as goal

abbrev pub invariant-loop-number : goal.invariant-loop-number
invariant-loop-number l = record {
  as_many : length l.columns.items ≡ length l.program.root;
  columns : AreColumns (take l.number l.program.rows) l.columns.items;
}
