-- No entry so far is the slot's.
use Rattle.std.proofs.Common.{◌≡◌, ℕ, ◌<◌, get_or}
use Rattle.row_kit.proofs.Ascending.{no_entry}
use Rattle.range_prop.proofs.sums.own_entry.Given as goal

abbrev pub invariant-loop-entry : goal.invariant-loop-entry
invariant-loop-entry l = (k : ℕ) → k < l.entry-index → (get_or l.entries k no_entry).slot ≡ l.slot → ⊥
