use Rattle.std.proofs.Common.{◌≡◌, max, drop}
use Rattle.stn_model.specs.Sums.{greatest_by}
use Rattle.plant_text.proofs.tables.task.longest.Given as goal

abbrev pub invariant-loop-output : goal.invariant-loop-output
invariant-loop-output l = max l.longest (greatest_by (λ o. o.delay) (drop l.output-index l.outputs)) ≡ greatest_by (λ o. o.delay) l.outputs
