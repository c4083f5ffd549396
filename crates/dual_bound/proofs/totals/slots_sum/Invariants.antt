-- What has been added and what is still to add give the whole.
use Rattle.std.proofs.Common.{◌≡◌, ◌*◌, ◌^◌, ◌≤◌, drop, ◌+ℤ◌, unsigned_abs}
use Rattle.row_kit.specs.Area.{present}
use Rattle.dual_bound.specs.Line.{line_at, slot_line}
use Rattle.dual_bound.specs.Total.{slots_total}
use Rattle.dual_bound.proofs.totals.slots_sum.Given as goal

abbrev pub invariant-loop-slot : goal.invariant-loop-slot
invariant-loop-slot l = record {
  whole : l.sum +ℤ slots_total (λ s. line_at (slot_line l.lines s)) l.slot (drop l.slot (present l.area)) ≡ slots_total (λ s. line_at (slot_line l.lines s)) 0 (present l.area);
  small : unsigned_abs l.sum ≤ 2 ^ 103 * l.slot;
}
