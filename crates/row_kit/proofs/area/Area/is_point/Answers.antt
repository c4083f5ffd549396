-- The present domains are those that the area holds.
use Rattle.std.proofs.Common.{◌∙◌, List, sym, subst}
use Rattle.std.specs.Bool.{IsTrue}
use Rattle.std.specs.List.{All}
use Rattle.row_kit.specs.declared.domain.Domain.{Domain}
use Rattle.row_kit.specs.Domain.{IsSingle}
use Rattle.row_kit.specs.Area.{present}
use Rattle.row_kit.proofs.PointCounts.{points-single}
use Rattle.row_kit.proofs.Histories.{present_is}
use Rattle.row_kit.proofs.area.Area.is_point.Goals as goal

pub returns-clause-single : goal.returns-clause-single
returns-clause-single c =
    let a = c.self.inside in
    let e = c.as_slice.ensures.value ∙ sym (present_is a.domains.items a.trail.items c.args.self.now c.self.view_is) in
    subst (λ (ds : List Domain). (IsTrue c.are_single.result → All IsSingle ds) × (All IsSingle ds → IsTrue c.are_single.result)) e c.are_single.ensures

pub returns-clause-one : goal.returns-clause-one
returns-clause-one c = λ point. points-single (present c.args.self.now) ((returns-clause-single c).0 point)
