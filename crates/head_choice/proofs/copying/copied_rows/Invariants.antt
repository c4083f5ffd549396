-- The copies so far are the rows so far.
use Rattle.std.proofs.Common.{◌≡◌, take}
use Rattle.head_choice.proofs.copying.copied_rows.Given as goal

abbrev pub invariant-loop-row : goal.invariant-loop-row
invariant-loop-row l = l.copies ≡ take l.row-index l.rows
