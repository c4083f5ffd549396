-- The law of setups.
use Rattle.setup_slots.proofs.Images.{costs-less, law}
use Rattle.setup_slots.proofs.Plans.{plans-law}
use Rattle.setup_slots.proofs.ManyUnits.{several-costs, several-law}
use Rattle.setup_slots.proofs.law.setups_relax.Goals as goal

pub returns-clause-images : goal.returns-clause-images
returns-clause-images c = law

pub returns-clause-costs : goal.returns-clause-costs
returns-clause-costs c = costs-less

pub returns-clause-plans : goal.returns-clause-plans
returns-clause-plans c = plans-law

pub returns-clause-several : goal.returns-clause-several
returns-clause-several c = several-law

pub returns-clause-all_costs : goal.returns-clause-all_costs
returns-clause-all_costs c = several-costs
