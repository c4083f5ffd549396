-- The first defect of derivations.
use Rattle.head_laws.proofs.TailFound.{tail_defects}
use Rattle.head_laws.proofs.law.tail_defects_law.Goals as goal

pub returns : goal.returns
returns c = tail_defects
