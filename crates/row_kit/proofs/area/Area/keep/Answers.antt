-- No value is added.
use Rattle.std.proofs.Common.{◌≤◌, List, sym, subst}
use Rattle.row_kit.specs.declared.domain.Domain.{Domain}
use Rattle.row_kit.specs.Area.{present}
use Rattle.row_kit.specs.Points.{points_of}
use Rattle.row_kit.proofs.PointCounts.{points-kept_le}
use Rattle.row_kit.proofs.area.Area.keep.Goals as goal

pub returns-clause-fewer : goal.returns-clause-fewer
returns-clause-fewer c =
    let ds = present c.args.self.now in
    subst (λ (xs : List Domain). points_of xs ≤ points_of ds) (sym c.narrow.ensures.domains) (points-kept_le ds c.args.slot c.new.result)
