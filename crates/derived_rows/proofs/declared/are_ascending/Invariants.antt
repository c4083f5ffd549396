-- Each slot so far is above the one before.
use Rattle.std.proofs.Common.{ℕ, ◌+◌, ◌<◌, map, slice_index}
use Rattle.derived_rows.proofs.declared.are_ascending.Given as goal

abbrev pub invariant-loop-place : goal.invariant-loop-place
invariant-loop-place l = (k : ℕ) → k + 1 < l.place → slice_index (map (λ e. e.slot) l.entries) k < slice_index (map (λ e. e.slot) l.entries) (k + 1)
