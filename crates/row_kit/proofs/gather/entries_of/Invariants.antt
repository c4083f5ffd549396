-- The entries so far and those of the slots that are left are the entries of all.
use Rattle.std.proofs.Common.{◌≡◌, ◌++◌, drop}
use Rattle.row_kit.specs.Row.{entries_from}
use Rattle.row_kit.proofs.gather.entries_of.Given as goal

abbrev pub invariant-loop-slot : goal.invariant-loop-slot
invariant-loop-slot l = l.entries.items ++ entries_from l.slot (drop l.slot l.parts) ≡ entries_from 0 l.parts
