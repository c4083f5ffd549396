-- The old log is read from its head on.
use Rattle.std.proofs.Common.{sym, subst}
use Rattle.branch_tree.specs.declared.going_on.GoingOn.{GoingOn}
use Rattle.branch_tree.specs.laws.Going.{CanGoOn}
use Rattle.resumed_log.proofs.resuming.look.Goals as goal

pub gather-requires-clause-can : goal.gather-requires-clause-can
gather-requires-clause-can g c = subst (λ (going : GoingOn). CanGoOn c.args.task.pair.most c.args.task.pair.rows.now going) (sym c.new-gathered.ensures) c.in_ok-going.ensures.can
