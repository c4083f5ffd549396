-- What the cuts leave has a domain for each slot.
use Rattle.std.proofs.Common.{arith}
use Rattle.std.proofs.lemmas.Grind.{common_steps}
use Rattle.derivations.proofs.Shares.{length-met}
use Rattle.derivations.proofs.anew.with_derivations_anew.Goals as goal

pub rooted-requires-clause-same_slots : goal.rooted-requires-clause-same_slots
rooted-requires-clause-same_slots c = grind (arith, common_steps, length-met)
