use Rattle.proof_log.proofs.PartsRead.{begun}
use Rattle.proof_log.proofs.log_reader.LogReader.begin.Goals as goal

pub returns : goal.returns
returns c told name version =
    begun told name version c.args.limits (record { alloc = c.args.alloc; lines = c.in_ok-lines.lines; gatherer = c.new-gatherer.result }) c.in_ok-lines.ensures c.new-gatherer.ensures.grammar c.new-gatherer.ensures.limits c.new-gatherer.ensures.gathered
