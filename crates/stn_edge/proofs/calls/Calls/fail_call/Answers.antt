use Rattle.stn_edge.proofs.FailingCalls.{failing-set}
use Rattle.stn_edge.proofs.calls.Calls.fail_call.Goals as goal

pub returns-clause-ok : goal.returns-clause-ok
returns-clause-ok c =
    let set = failing-set c.self.inside.failing c.insert.new.self c.args.call c.args.bytes c.in_ok-insert.ensures.updates in
    rw (← c.self.view_is, ← set)
