-- Derivations hold.
use Rattle.derivations.proofs.Holding.{holds}
use Rattle.derivations.proofs.law.derivations_hold.Goals as goal

pub returns : goal.returns
returns c = holds
