use Rattle.setup_lines.proofs.Fronts.{setups_read}
use Rattle.setup_lines.proofs.law.setups_are_read.Goals as goal

pub returns : goal.returns
returns c = setups_read
