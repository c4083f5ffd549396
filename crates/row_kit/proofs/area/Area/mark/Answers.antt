-- There is one mark more than there are changes.
use Rattle.std.proofs.Common.{ap, length, arith}
use Rattle.row_kit.proofs.Histories.{length-history}
use Rattle.row_kit.proofs.area.Area.mark.Goals as goal

pub returns : goal.returns
returns c =
    let a = c.self.inside in
    omega (arith, ap length c.self.view_is, length-history a.domains.items a.trail.items, a.trail.ok.0)
