-- As many empty columns as steps.
use Rattle.std.proofs.Common.{◌≡◌, replicate, []}
use Rattle.row_rooms.proofs.rooms.empty_columns.Given as goal

abbrev pub invariant-loop-count : goal.invariant-loop-count
invariant-loop-count l = l.columns.items ≡ replicate l.count-index []
