use Rattle.std.proofs.Common.{arith, rules}
use Rattle.std.proofs.lemmas.Bool.Decides.{nat_tests}
use Rattle.stn_model.specs.Labels.{days_in_month}
use Rattle.plant_labels.proofs.clock.days_in_month.Goals as goal

pub returns-in-2 : goal.returns-in-2
unfolding days_in_month
returns-in-2 c = search rules

pub returns-in-2-2 : goal.returns-in-2-2
unfolding days_in_month
returns-in-2-2 c = search rules

pub returns-in-4 : goal.returns-in-4
unfolding days_in_month
returns-in-4 c = grind (arith, nat_tests)

pub returns-in_default : goal.returns-in_default
unfolding days_in_month
returns-in_default c = grind (arith, nat_tests)
