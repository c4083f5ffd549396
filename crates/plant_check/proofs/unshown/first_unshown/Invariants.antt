-- Each sum so far is shown.
use Rattle.std.proofs.Common.{◌≡◌, take}
use Rattle.std.specs.List.{All}
use Rattle.sum_slots.specs.Shown.{IsShown}
use Rattle.plant_check.proofs.unshown.first_unshown.Given as goal

abbrev pub invariant-loop-sum : goal.invariant-loop-sum
invariant-loop-sum l = record {
  counted : l.place ≡ l.sum-index;
  shown : All (IsShown l.program l.ranges) (take l.sum-index l.sums);
}
