-- The entries, and those that are added so far.
use Rattle.std.proofs.Common.{◌≡◌, ◌++◌, take}
use Rattle.setup_slots.proofs.larger.add_entries.Given as goal

abbrev pub invariant-loop-entry : goal.invariant-loop-entry
invariant-loop-entry l = l.entries ≡ l.initial.entries ++ take l.entry-index l.more
