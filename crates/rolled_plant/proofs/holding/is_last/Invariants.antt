use Rattle.std.proofs.Common.{◌≡◌, take, true}
use Rattle.std.specs.Prelude.{not}
use Rattle.std.specs.List.{list_all}
use Rattle.stn_model.specs.Batches.{is_earlier}
use Rattle.rolled_plant.proofs.holding.is_last.Given as goal

abbrev pub invariant-loop-b : goal.invariant-loop-b
invariant-loop-b l = list_all (λ b. not (is_earlier l.a b)) (take l.b-index l.plan) ≡ true
