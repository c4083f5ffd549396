-- The first defect of a head.
use Rattle.head_laws.proofs.HeadFound.{head_defects}
use Rattle.head_laws.proofs.law.head_defects_law.Goals as goal

pub returns : goal.returns
returns c = head_defects
