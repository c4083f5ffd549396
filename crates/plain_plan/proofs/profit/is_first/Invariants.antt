use Rattle.std.proofs.Common.{◌≡◌, take, true}
use Rattle.std.specs.Prelude.{not}
use Rattle.std.specs.List.{list_all}
use Rattle.stn_model.specs.Batches.{is_earlier}
use Rattle.plain_plan.proofs.profit.is_first.Given as goal

abbrev pub invariant-loop-a : goal.invariant-loop-a
invariant-loop-a l = list_all (λ a. not (is_earlier a l.b)) (take l.a-index l.plan) ≡ true
