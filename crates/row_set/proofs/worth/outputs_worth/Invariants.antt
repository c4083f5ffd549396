use Rattle.std.proofs.Common.{◌≡◌, take}
use Rattle.stn_model.specs.Sums.{total}
use Rattle.row_set.specs.ProfitParts.{output_worth}
use Rattle.row_set.proofs.worth.outputs_worth.Given as goal

abbrev pub invariant-loop-output : goal.invariant-loop-output
invariant-loop-output l = l.sum ≡ total (output_worth l.plant l.period) (take l.output-index l.output-items)
