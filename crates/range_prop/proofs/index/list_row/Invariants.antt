-- The entries so far are listed.
use Rattle.std.proofs.Common.{◌≡◌, ◌⊎◌, ◌↔◌, ℕ, length, take}
use Rattle.std.specs.List.{Contains}
use Rattle.range_prop.specs.Index.{list_of, HasEntry}
use Rattle.range_prop.proofs.index.list_row.Given as goal

abbrev pub invariant-loop-entry : goal.invariant-loop-entry
invariant-loop-entry l = record {
  count : length l.lists.items ≡ length l.initial.lists.items;
  listed : (slot x : ℕ) → Contains (list_of l.lists.items slot) x ↔ (Contains (list_of l.initial.lists.items slot) x ⊎ ((x ≡ l.number) × HasEntry (take l.entry-index l.entries) slot));
}
