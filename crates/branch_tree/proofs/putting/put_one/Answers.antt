-- The taker stopped at the point.
use Rattle.branch_tree.proofs.Stopping.{at_err, stopped_last}
use Rattle.branch_tree.proofs.putting.put_one.Goals as goal

pub returns-in_err-put-clause-err : goal.returns-in_err-put-clause-err
returns-in_err-put-clause-err g c = at_err _ _ (stopped_last g.T.NodeTaker.took g.T.NodeTaker.broke _ _ _ _ _ c.in_err-put.ensures.broke)
