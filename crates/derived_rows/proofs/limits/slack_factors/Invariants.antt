-- The factors of the slacks so far.
use Rattle.std.proofs.Common.{◌≡◌, length, map, take}
use Rattle.std.specs.List.{All}
use Rattle.derived_rows.specs.Derived.{round_of, slack_factor}
use Rattle.derived_rows.specs.Line.{IsSmallFactor}
use Rattle.derived_rows.proofs.limits.slack_factors.Given as goal

abbrev pub invariant-loop-factor : goal.invariant-loop-factor
invariant-loop-factor l = record {
  value : l.slacks ≡ map (slack_factor (round_of l.derived)) (take l.factor-index l.derived.factors);
  small : All (IsSmallFactor (length l.rows)) l.slacks;
}
