-- There is a count for each slot.
use Rattle.std.proofs.Common.{◌≡◌, length}
use Rattle.row_rooms.proofs.rooms.cell_counts.Given as goal

abbrev pub invariant-loop-row : goal.invariant-loop-row
invariant-loop-row l = length l.counts.items ≡ length l.program.root
