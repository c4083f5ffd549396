-- It falls up to the low end and not past the high end.
use Rattle.std.proofs.Common.{◌-◌, ◌+◌, ◌<◌, ◌≤◌, ◌^◌, ◌≤ℤ◌}
use Rattle.row_kit.specs.Area.{present}
use Rattle.dual_climb.specs.laws.Along.{part_along}
use Rattle.dual_climb.proofs.least.between.Given as goal

abbrev pub decreases-loop-low : goal.decreases-loop-low
decreases-loop-low l = l.high - l.low

abbrev pub invariant-loop-low : goal.invariant-loop-low
invariant-loop-low l =
    let part = part_along l.gains.lines.items (present l.area) l.row l.own in
    record {
      ordered : l.low ≤ l.high;
      range : l.high ≤ 2 ^ 40;
      some : 1 ≤ l.reach;
      few : l.reach ≤ 2 ^ 41;
      falls : 0 < l.low → part l.low ≤ℤ part (l.low - 1);
      rises : l.high < 2 ^ 40 → part l.high ≤ℤ part (l.high + 1);
    }
