-- What is held, and each pass that changes something takes the scale off the total.
use Rattle.std.proofs.Common.{◌≡◌, ◌^◌, true, false, pos, ◌+ℤ◌, ◌≤ℤ◌, unsigned_abs}
use Rattle.row_kit.specs.Area.{present}
use Rattle.dual_climb.specs.laws.Held.{IsHeld}
use Rattle.dual_climb.specs.laws.Sums.{IsLoweredBy}
use Rattle.dual_climb.proofs.polishing.descend.Given as goal

abbrev pub decreases-loop-changed : goal.decreases-loop-changed
decreases-loop-changed l = unsigned_abs (l.held.total +ℤ pos (2 ^ 127))

abbrev pub invariant-loop-changed : goal.invariant-loop-changed
invariant-loop-changed l = record {
  held : IsHeld l.program (present l.area) l.scale l.held.mults.items l.held.gains.lines.items l.held.gains.most.items l.held.total;
  never : l.held.total ≤ℤ l.initial.held.total;
  fell : l.changed ≡ true → (l.held.total +ℤ pos l.scale) ≤ℤ l.initial.held.total;
  same : l.changed ≡ false → l.held.mults.items ≡ l.initial.held.mults.items;
  changes : IsLoweredBy l.scale l.program (present l.area) l.scale l.initial.held.mults.items l.held.mults.items;
}
