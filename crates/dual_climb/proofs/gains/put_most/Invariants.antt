-- The most of each slot so far.
use Rattle.std.proofs.Common.{◌≡◌, ◌<◌, ◌≤◌, ◌^◌, ℕ, length, get_or, pos, unsigned_abs}
use Rattle.std.specs.List.{All}
use Rattle.row_kit.specs.Area.{present}
use Rattle.row_kit.specs.Domain.{domain_at, values_of}
use Rattle.dual_bound.specs.Line.{line_at, slot_line}
use Rattle.dual_bound.specs.Total.{greatest}
use Rattle.dual_climb.proofs.gains.put_most.Given as goal

abbrev pub invariant-loop-slot : goal.invariant-loop-slot
invariant-loop-slot l = record {
  slots : length l.most ≡ length (present l.area);
  small : All (λ x. unsigned_abs x ≤ 2 ^ 103) l.most;
  each : (slot : ℕ) → slot < l.slot → get_or l.most slot (pos 0) ≡ greatest (line_at (slot_line l.lines slot)) (values_of (domain_at (present l.area) slot));
}
