-- No claim is said where there are no sums.
use Rattle.log_parts.proofs.writing.write_joined.Goals as goal

pub returns-in-None-clause-claim : goal.returns-in-None-clause-claim
returns-in-None-clause-claim g c = c.no_sums.ensures c.args.claim
