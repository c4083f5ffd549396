-- The taker stopped at a cut.
use Rattle.branch_tree.proofs.Stopping.{at_err, stopped_cut}
use Rattle.branch_tree.proofs.putting.put_cuts.Goals as goal

pub returns-in_err-put-clause-err : goal.returns-in_err-put-clause-err
returns-in_err-put-clause-err g c =
    at_err _ _ (stopped_cut g.T.NodeTaker.took g.T.NodeTaker.broke c.args.cuts.now c.loop-cut.cut-index _ _ _ _ _ _ _ c.loop-cut-test.true c.loop-cut.invariant.handed c.in_err-put.ensures.broke)
