-- The values up to m are what the others leave.
use Rattle.std.proofs.Common.{◌+◌, ◌∙◌, List, ap}
use Rattle.row_kit.specs.declared.domain.Domain.{Domain}
use Rattle.row_kit.specs.Area.{present}
use Rattle.row_kit.specs.Domain.{up_to}
use Rattle.row_kit.specs.Points.{kept_at, points_of}
use Rattle.row_kit.proofs.PointCounts.{points-split}
use Rattle.row_kit.proofs.area.Area.above.Goals as goal

pub returns-clause-split : goal.returns-clause-split
returns-clause-split c =
    let ds = present c.args.self.now in
    let is = c.narrow.ensures.domains ∙ ap (kept_at ds c.args.slot) c.over.ensures.written in
    ap (λ (xs : List Domain). points_of (kept_at ds c.args.slot (up_to c.args.m)) + points_of xs) is
    ∙ points-split ds c.args.slot c.args.m c.narrow.ensures.normal c.requires
