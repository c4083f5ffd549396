-- The factors that are not 0 have the total of all.
use Rattle.row_kit.specs.Area.{present}
use Rattle.dual_climb.proofs.Sums.{total_same}
use Rattle.dual_climb.proofs.climbing.certificate.Goals as goal

pub returns-clause-total : goal.returns-clause-total
returns-clause-total c =
    total_same c.args.program.now (present c.args.area.now) c.args.start.now.scale c.in_ok-mults.mults c.args.factors.now c.in_ok-mults.ensures.same
