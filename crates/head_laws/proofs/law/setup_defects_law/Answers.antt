-- The first defect of setups.
use Rattle.head_laws.proofs.SetupDefects.{setup_defects}
use Rattle.head_laws.proofs.law.setup_defects_law.Goals as goal

pub returns : goal.returns
returns c = setup_defects
