-- The lines so far are the opposites, and the others are as they were.
use Rattle.std.proofs.Common.{◌≡◌, ℕ, ◌<◌, ◌≤◌, neg_ℤ}
use Rattle.std.specs.List.{All}
use Rattle.dual_bound.specs.Line.{line_at, slot_line, IsWithin}
use Rattle.dual_bound.proofs.lines.turn.Given as goal

abbrev pub invariant-loop-line : goal.invariant-loop-line
invariant-loop-line l = record {
  turned : (slot v : ℕ) → slot < l.line-index → line_at (slot_line l.lines slot) v ≡ neg_ℤ (line_at (slot_line l.initial.lines slot) v);
  same : (slot : ℕ) → l.line-index ≤ slot → slot_line l.lines slot ≡ slot_line l.initial.lines slot;
  within : (most : ℕ) → All (IsWithin most) l.initial.lines → All (IsWithin most) l.lines;
}
