-- The present domains are those that the area holds.
use Rattle.std.proofs.Common.{◌∙◌, List, sym, subst}
use Rattle.std.specs.Bool.{IsTrue}
use Rattle.std.specs.List.{Any}
use Rattle.row_kit.specs.declared.domain.Domain.{Domain}
use Rattle.row_kit.specs.Domain.{IsBare}
use Rattle.row_kit.specs.Area.{present}
use Rattle.row_kit.proofs.PointCounts.{points-any_bare, points-none}
use Rattle.row_kit.proofs.Histories.{present_is}
use Rattle.row_kit.proofs.area.Area.has_empty.Goals as goal

pub returns-clause-bare : goal.returns-clause-bare
returns-clause-bare c =
    let a = c.self.inside in
    let e = c.as_slice.ensures.value ∙ sym (present_is a.domains.items a.trail.items c.args.self.now c.self.view_is) in
    subst (λ (ds : List Domain). (IsTrue c.has_bare.result → Any IsBare ds) × (Any IsBare ds → IsTrue c.has_bare.result)) e c.has_bare.ensures

pub returns-clause-none : goal.returns-clause-none
returns-clause-none c =
    let ds = present c.args.self.now in (
      λ empty. points-any_bare ds ((returns-clause-bare c).0 empty),
      λ none. (returns-clause-bare c).1 (points-none ds none),
    )
