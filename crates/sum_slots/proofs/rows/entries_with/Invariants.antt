-- The terms so far.
use Rattle.std.proofs.Common.{◌≡◌, map, take}
use Rattle.sum_slots.specs.Shown.{turned}
use Rattle.sum_slots.proofs.rows.entries_with.Given as goal

abbrev pub invariant-loop-term : goal.invariant-loop-term
invariant-loop-term l = l.entries ≡ map (turned l.turn) (take l.term-index l.terms)
