-- A plan of the rolled plant is a plan of the plant behind the starts before.
use Rattle.rolled_plant.proofs.Laws.{of_lists}
use Rattle.rolled_plant.proofs.law.roll_law.Goals as goal

pub returns : goal.returns
returns c = of_lists
