use Rattle.plan_tables.proofs.Charges.{charges_are_costs}
use Rattle.plan_tables.proofs.whole.table.Goals as goal

pub returns-in_err-push_table-clause-charges : goal.returns-in_err-push_table-clause-charges
returns-in_err-push_table-clause-charges c = charges_are_costs c.args.plant.now c.args.plan.now c.requires.sound

pub returns-clause-charges : goal.returns-clause-charges
returns-clause-charges c = charges_are_costs c.args.plant.now c.args.plan.now c.requires.sound
