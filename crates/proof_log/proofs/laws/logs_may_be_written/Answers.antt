use Rattle.proof_log.proofs.WrittenLines.{logs_written}
use Rattle.proof_log.proofs.laws.logs_may_be_written.Goals as goal

pub returns : goal.returns
returns c = logs_written
