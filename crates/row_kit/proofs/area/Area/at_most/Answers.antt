-- The values above m are what the others leave.
use Rattle.std.proofs.Common.{◌+◌, ◌∙◌, List, ap}
use Rattle.row_kit.specs.declared.domain.Domain.{Domain}
use Rattle.row_kit.specs.Area.{present}
use Rattle.row_kit.specs.Domain.{over}
use Rattle.row_kit.specs.Points.{kept_at, points_of}
use Rattle.row_kit.proofs.PointCounts.{points-split}
use Rattle.row_kit.proofs.area.Area.at_most.Goals as goal

pub returns-clause-split : goal.returns-clause-split
returns-clause-split c =
    let ds = present c.args.self.now in
    let is = c.narrow.ensures.domains ∙ ap (kept_at ds c.args.slot) c.up_to.ensures.written in
    ap (λ (xs : List Domain). points_of xs + points_of (kept_at ds c.args.slot (over c.args.m))) is
    ∙ points-split ds c.args.slot c.args.m c.narrow.ensures.normal c.requires
