use Rattle.std.proofs.Common.{◌≡◌, ◌≤◌, ◌*◌, take}
use Rattle.std.specs.List.{sum_by}
use Rattle.plant_text.specs.Sizes.{pairs_between}
use Rattle.plant_text.proofs.sizes.pairs_after.Given as goal

abbrev pub invariant-loop-number : goal.invariant-loop-number
invariant-loop-number l = record { counted : l.count ≡ sum_by (pairs_between l.plant l.a) (take l.number l.b-items); small : l.count ≤ 112896 * l.number }
