use Rattle.std.proofs.Common.{◌≡◌, max, drop}
use Rattle.stn_model.specs.Sums.{greatest_by}
use Rattle.plan_tables.specs.Units.{cleaned_before}
use Rattle.plan_tables.proofs.cleanings.ready_until.Given as goal

abbrev pub invariant-loop-b : goal.invariant-loop-b
invariant-loop-b l = max l.last (greatest_by (cleaned_before l.plant l.batches) (drop l.b-index l.batches)) ≡ greatest_by (cleaned_before l.plant l.batches) l.batches
