use Rattle.std.proofs.Common.{◌≡◌, take}
use Rattle.stn_model.specs.Sums.{total}
use Rattle.row_set.specs.ProfitParts.{input_worth}
use Rattle.row_set.proofs.worth.inputs_worth.Given as goal

abbrev pub invariant-loop-input : goal.invariant-loop-input
invariant-loop-input l = l.sum ≡ total (input_worth l.plant l.period) (take l.input-index l.input-items)
