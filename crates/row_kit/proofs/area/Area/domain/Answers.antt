-- The present domains are those that the area holds.
use Rattle.std.proofs.Common.{◌∙◌, ◌<◌, ap, sym, subst, length, arith}
use Rattle.std.proofs.lemmas.List.{get_or_read}
use Rattle.row_kit.specs.Domain.{IsNormal, domain_at, no_values}
use Rattle.row_kit.proofs.Histories.{present_is}
use Rattle.row_kit.proofs.area.Area.domain.Goals as goal

pub index-requires : goal.index-requires
index-requires c =
    let a = c.self.inside in
    omega (arith, ap length (present_is a.domains.items a.trail.items c.args.self.now c.self.view_is), a.domains.ok.0)

pub returns-clause-value : goal.returns-clause-value
returns-clause-value c =
    let a = c.self.inside in
    let e = present_is a.domains.items a.trail.items c.args.self.now c.self.view_is in
    let lt : c.args.slot < length a.domains.items = omega (arith, ap length e) in
    get_or_read a.domains.items c.args.slot c.index.result.now lt c.index.ensures no_values ∙ ap (λ ds. domain_at ds c.args.slot) (sym e)

pub returns-clause-normal : goal.returns-clause-normal
returns-clause-normal c =
    let a = c.self.inside in
    let e = present_is a.domains.items a.trail.items c.args.self.now c.self.view_is in
    let lt : c.args.slot < length a.domains.items = omega (arith, ap length e) in
    subst IsNormal (sym (get_or_read a.domains.items c.args.slot c.index.result.now lt c.index.ensures no_values)) (c.self.invariant.normal c.args.slot no_values lt)
