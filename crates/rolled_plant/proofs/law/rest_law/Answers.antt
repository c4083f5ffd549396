-- The rest of a plan is a plan of the rolled plant.
use Rattle.rolled_plant.proofs.Laws.{of_plans}
use Rattle.rolled_plant.proofs.law.rest_law.Goals as goal

pub returns : goal.returns
returns c = of_plans
