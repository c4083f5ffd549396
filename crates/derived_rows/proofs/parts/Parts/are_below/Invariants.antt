-- The entry is below at each value so far.
use Rattle.std.proofs.Common.{ℕ, ◌<◌, ◌≤◌}
use Rattle.derived_rows.specs.Line.{IsBelow}
use Rattle.derived_rows.proofs.parts.Parts.are_below.Given as goal

abbrev pub invariant-loop-value : goal.invariant-loop-value
invariant-loop-value l = (v : ℕ) → l.fn.domain.lo ≤ v → v < l.value → IsBelow l.derived l.self v
