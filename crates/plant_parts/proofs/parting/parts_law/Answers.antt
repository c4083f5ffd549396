-- By the digits of where the plan starts batches.
use Rattle.plant_parts.proofs.Meaning.{of-some, of-one}
use Rattle.plant_parts.proofs.parting.parts_law.Goals as goal

pub returns : goal.returns
returns c = record { some = of-some; one = of-one }
