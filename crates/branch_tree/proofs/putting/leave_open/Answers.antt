-- The taker stopped at the node, at its end, or between them.
use Rattle.std.proofs.Common.{[], ◌∷◌, subst}
use Rattle.proof_tree.specs.declared.item.Item.TheVariants.{Node as NodeItem, Pending as PendingItem}
use Rattle.branch_tree.specs.laws.Stops.{Stopped}
use Rattle.branch_tree.proofs.Stopping.{at_err, stopped_first, stopped_last, stopped_none, stopped_second}
use Rattle.branch_tree.proofs.putting.leave_open.Goals as goal

pub returns-in_err-put-clause-err : goal.returns-in_err-put-clause-err
returns-in_err-put-clause-err g c = at_err _ _ (stopped_first g.T.NodeTaker.took g.T.NodeTaker.broke _ _ NodeItem (PendingItem c.args.held.now) _ _ c.in_err-put.ensures.broke)

pub returns-in_err-copy-clause-err : goal.returns-in_err-copy-clause-err
returns-in_err-copy-clause-err g c =
    at_err _ _ (stopped_second g.T.NodeTaker.took g.T.NodeTaker.broke _ _ NodeItem (PendingItem c.args.held.now) _ _ _ _ c.in_ok-put.ensures.took (stopped_none g.T.NodeTaker.took g.T.NodeTaker.broke _ _ (PendingItem c.args.held.now ∷ [])))

pub returns-in_err-put-2-clause-err : goal.returns-in_err-put-2-clause-err
returns-in_err-put-2-clause-err g c =
    let stopped = stopped_last g.T.NodeTaker.took g.T.NodeTaker.broke c.put.new.self c.put.new.out (PendingItem c.in_ok-copy.copy ∷ []) c.put-2.new.self c.put-2.new.out c.in_err-put-2.ensures.broke in
    let same = subst (λ cert. Stopped g.T.NodeTaker.took g.T.NodeTaker.broke c.put.new.self c.put.new.out (PendingItem cert ∷ []) c.put-2.new.self c.put-2.new.out) c.in_ok-copy.ensures stopped in
    at_err _ _ (stopped_second g.T.NodeTaker.took g.T.NodeTaker.broke _ _ NodeItem (PendingItem c.args.held.now) _ _ _ _ c.in_ok-put.ensures.took same)
