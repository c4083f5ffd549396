use Rattle.std.proofs.Common.{◌≡◌, ◌≤◌, ◌^◌, max, drop, unsigned_abs}
use Rattle.stn_model.specs.Sums.{greatest_by}
use Rattle.plan_picture.proofs.levels.highest_level.Given as goal

abbrev pub invariant-loop-level : goal.invariant-loop-level
invariant-loop-level l = record {
  value : max l.highest (greatest_by unsigned_abs (drop l.level-index l.levels)) ≡ greatest_by unsigned_abs l.levels;
  small : l.highest ≤ 2 ^ 127;
}
