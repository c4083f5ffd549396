use Rattle.derivation_lines.proofs.TailsRead.{derivations_read}
use Rattle.derivation_lines.proofs.law.derivations_are_read.Goals as goal

pub returns : goal.returns
returns c = derivations_read
