use Rattle.setup_lines.proofs.OneFront.{fronts_same}
use Rattle.setup_lines.proofs.law.setups_are_one.Goals as goal

pub returns : goal.returns
returns c = fronts_same
