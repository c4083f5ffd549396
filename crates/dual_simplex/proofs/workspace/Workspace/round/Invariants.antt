use Rattle.std.proofs.Common.{ℕ, ◌<◌, get_or}
use Rattle.row_kit.specs.Area.{present}
use Rattle.row_kit.specs.Domain.{Holds, domain_at}
use Rattle.dual_simplex.proofs.workspace.Workspace.round.Given as goal

abbrev pub invariant-loop-slot : goal.invariant-loop-slot
invariant-loop-slot l = (k : ℕ) → k < l.slot → Holds (domain_at (present l.area) k) (get_or l.point k 0)
