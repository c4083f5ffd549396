-- Without a head the reader begins at the first byte.
use Rattle.std.proofs.lemmas.Result.{IfOk-weaker}
use Rattle.proof_log.proofs.Headed.{begun_behind}
use Rattle.proof_log.proofs.log_reader.LogReader.begin_behind.Goals as goal

pub returns-then-head-eq0 : goal.returns-then-head-eq0
returns-then-head-eq0 c = rw c.if-head-eq0.true (IfOk-weaker c.begin.result _ _ (λ reader all told name. all told name c.args.version) c.begin.ensures)

pub returns : goal.returns
returns c told name =
    begun_behind told name c.args.version c.args.head c.args.limits (record { alloc = c.args.alloc; lines = c.in_ok-lines.lines; gatherer = c.in_ok-gatherer.gatherer }) c.if-head-eq0.false c.in_ok-lines.ensures c.in_ok-gatherer.ensures.grammar c.in_ok-gatherer.ensures.limits c.in_ok-gatherer.ensures.gathered
