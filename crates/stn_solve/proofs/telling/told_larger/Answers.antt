-- The claim is that of what is told, with the values of the sums.
use Rattle.std.proofs.Common.{refl}
use Rattle.stn_solve.proofs.telling.told_larger.Goals as goal

pub larger_claim-requires : goal.larger_claim-requires
larger_claim-requires c = c.requires.bytes c.in_ok-outcome.field-0 c.in_ok-outcome.ensures

pub returns : goal.returns
returns c = record { own = c.in_ok-outcome.field-0; told = c.in_ok-outcome.ensures; outcome = refl; claim = c.in_ok-claim.ensures }
