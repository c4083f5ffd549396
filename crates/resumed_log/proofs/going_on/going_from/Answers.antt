-- A search that knows a plan can still go on.
use Rattle.resumed_log.proofs.going_on.going_from.Goals as goal

pub returns : goal.returns
returns c = record { can = c.in_ok-offer.ensures c.args.task.pair.most c.args.task.pair.rows.now c.in_ok-going.ensures.can }
