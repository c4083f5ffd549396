-- Each domain so far holds its value.
use Rattle.std.proofs.Common.{ℕ, ◌<◌, slice_index}
use Rattle.row_kit.specs.Domain.{Holds, domain_at}
use Rattle.row_kit.proofs.point.lies_in.Given as goal

abbrev pub invariant-loop-slot : goal.invariant-loop-slot
invariant-loop-slot l = (k : ℕ) → k < l.slot → Holds (domain_at l.domains k) (slice_index l.point k)
