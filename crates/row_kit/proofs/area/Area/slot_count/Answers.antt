-- The present domains are those that the area holds.
use Rattle.std.proofs.Common.{ap, sym, subst, length, arith}
use Rattle.std.specs.List.{All}
use Rattle.row_kit.specs.Domain.{IsNormal}
use Rattle.row_kit.proofs.Histories.{present_is}
use Rattle.row_kit.proofs.area.Area.slot_count.Goals as goal

pub returns-clause-count : goal.returns-clause-count
returns-clause-count c =
    let a = c.self.inside in
    omega (arith, ap length (present_is a.domains.items a.trail.items c.args.self.now c.self.view_is), a.domains.ok.0)

pub returns-clause-normal : goal.returns-clause-normal
returns-clause-normal c =
    let a = c.self.inside in
    subst (All IsNormal) (sym (present_is a.domains.items a.trail.items c.args.self.now c.self.view_is)) c.self.invariant.normal
