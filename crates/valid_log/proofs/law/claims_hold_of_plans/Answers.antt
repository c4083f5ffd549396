-- What claims say of plans.
use Rattle.valid_log.proofs.PartSaying.{heads-say, parts-say}
use Rattle.valid_log.proofs.law.claims_hold_of_plans.Goals as goal

pub returns-clause-parts : goal.returns-clause-parts
returns-clause-parts c = parts-say

pub returns-clause-heads : goal.returns-clause-heads
returns-clause-heads c = heads-say
