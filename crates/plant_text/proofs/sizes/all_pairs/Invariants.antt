use Rattle.std.proofs.Common.{◌≡◌, ◌≤◌, ◌*◌, take}
use Rattle.std.specs.List.{sum_by}
use Rattle.plant_text.specs.Sizes.{pairs_between}
use Rattle.plant_text.proofs.sizes.all_pairs.Given as goal

abbrev pub invariant-loop-number : goal.invariant-loop-number
invariant-loop-number l = record { counted : l.count ≡ sum_by (λ a. sum_by (pairs_between l.plant a) l.plant.runs) (take l.number l.a-items); small : l.count ≤ 28901376 * l.number }
