-- What is held, and either it has fallen by so much or each row so far is best.
use Rattle.std.proofs.Common.{◌≡◌, ◌<◌, ℕ, Some, true, false, pos, ◌+ℤ◌, ◌≤ℤ◌, ◌⊎◌}
use Rattle.row_kit.specs.Area.{present}
use Rattle.dual_bound.specs.Cap.{scaled_cap}
use Rattle.dual_climb.specs.Factors.{cert_of}
use Rattle.dual_climb.specs.Polished.{IsReached}
use Rattle.dual_climb.specs.RowBest.{BestBy}
use Rattle.dual_climb.specs.laws.Held.{IsHeld}
use Rattle.dual_climb.specs.laws.Sums.{IsLoweredBy}
use Rattle.dual_climb.proofs.polishing.pass.Given as goal

abbrev pub invariant-loop-number : goal.invariant-loop-number
invariant-loop-number l = record {
  held : IsHeld l.program (present l.area) l.scale l.held.mults.items l.held.gains.lines.items l.held.gains.most.items l.held.total;
  never : l.held.total ≤ℤ l.initial.held.total;
  fell : l.changed ≡ true → (l.held.total +ℤ pos l.least_fall) ≤ℤ l.initial.held.total;
  changes : IsLoweredBy l.least_fall l.program (present l.area) l.scale l.initial.held.mults.items l.held.mults.items;
  same : l.changed ≡ false → l.held.mults.items ≡ l.initial.held.mults.items;
  best : l.changed ≡ false → (row : ℕ) → row < l.number → BestBy l.least_fall l.program (present l.area) (cert_of l.scale l.held.mults.items) row ⊎ IsReached l.stop (scaled_cap l.scale (Some l.held.total));
}
