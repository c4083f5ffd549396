use Rattle.rolled_plant.proofs.Dated.{same_dates}
use Rattle.rolled_plant.proofs.law.date_law.Goals as goal

pub returns : goal.returns
returns c = same_dates c.clock_law.ensures
