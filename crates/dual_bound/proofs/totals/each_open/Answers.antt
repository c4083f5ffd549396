-- No domain is without values where each has one.
use Rattle.row_kit.specs.Area.{present}
use Rattle.dual_bound.proofs.Fit.{open_decides}
use Rattle.dual_bound.proofs.totals.each_open.Goals as goal

pub returns-clause-value : goal.returns-clause-value
returns-clause-value c = open_decides c.has_empty.result (present c.args.area.now) c.has_empty.ensures.bare.0 c.has_empty.ensures.bare.1
