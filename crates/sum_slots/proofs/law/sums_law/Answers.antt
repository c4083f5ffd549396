-- The law of sums.
use Rattle.sum_slots.proofs.Sameness.{law}
use Rattle.sum_slots.proofs.law.sums_law.Goals as goal

pub returns : goal.returns
returns c = law
