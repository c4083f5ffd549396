-- The domain that a slot is given holds what both domains hold, and one value fewer at least, where it is another one.
use Rattle.std.proofs.Common.{◌≡◌, ◌<◌, ◌∙◌, List, ap, sym, subst, false, length, arith}
use Rattle.std.proofs.lemmas.List.{get_or_read, length-set, get_or-set_same}
use Rattle.row_kit.specs.declared.domain.Domain.{Domain}
use Rattle.row_kit.specs.Domain.{Holds, IsNormal, count_of, domain_at, no_values, shared}
use Rattle.row_kit.specs.Area.{present, history, is_same, with_domain}
use Rattle.row_kit.proofs.Domains.{shared_fewer}
use Rattle.row_kit.proofs.Histories.{present_is, present-history}
use Rattle.row_kit.proofs.Marks.{present-with_domain}
use Rattle.row_kit.proofs.area.Area.narrow.Goals as goal

pub index-requires : goal.index-requires
index-requires c =
    let a = c.self.inside in
    omega (arith, ap length (present_is a.domains.items a.trail.items c.args.self.now c.self.view_is), a.domains.ok.0)

pub put_domain-requires-clause-slot : goal.put_domain-requires-clause-slot
put_domain-requires-clause-slot c =
    let a = c.self.inside in
    omega (arith, ap length (present_is a.domains.items a.trail.items c.args.self.now c.self.view_is))

pub put_domain-requires-clause-normal : goal.put_domain-requires-clause-normal
put_domain-requires-clause-normal c =
    let a = c.self.inside in
    let lt : c.args.slot < length a.domains.items = omega (arith, ap length (present_is a.domains.items a.trail.items c.args.self.now c.self.view_is)) in
    let e = get_or_read a.domains.items c.args.slot c.index.result.now lt c.index.ensures no_values in
    c.shared-next.ensures.normal (subst IsNormal (sym e) (c.self.invariant.normal c.args.slot no_values lt))

pub put_domain-requires-clause-fewer : goal.put_domain-requires-clause-fewer
put_domain-requires-clause-fewer c =
    let a = c.self.inside in
    let ds = a.domains.items in
    let lt : c.args.slot < length ds = omega (arith, ap length (present_is ds a.trail.items c.args.self.now c.self.view_is)) in
    let e = get_or_read ds c.args.slot c.index.result.now lt c.index.ensures no_values in
    let written : c.shared-next.result ≡ shared (domain_at ds c.args.slot) c.args.other = c.shared-next.ensures.written ∙ ap (λ (d : Domain). shared d c.args.other) e in
    subst (λ (next : Domain). is_same (domain_at ds c.args.slot) next ≡ false → count_of next < count_of (domain_at ds c.args.slot)) (sym written)
    (shared_fewer (domain_at ds c.args.slot) c.args.other (c.self.invariant.normal c.args.slot no_values lt))

pub returns-clause-values : goal.returns-clause-values
returns-clause-values c =
    let a = c.self.inside in
    let ds = a.domains.items in
    let is = present_is ds a.trail.items c.args.self.now c.self.view_is in
    let lt : c.args.slot < length ds = omega (arith, ap length is) in
    let was : c.index.result.now ≡ domain_at (present c.args.self.now) c.args.slot =
    get_or_read ds c.args.slot c.index.result.now lt c.index.ensures no_values ∙ ap (λ (v : List Domain). domain_at v c.args.slot) (sym is) in
    let now' : c.shared-next.result ≡ domain_at (present (history c.put_domain.new.domains.items c.put_domain.new.trail.items)) c.args.slot =
    sym (get_or-set_same ds c.args.slot c.shared-next.result no_values lt)
    ∙ ap (λ (v : List Domain). domain_at v c.args.slot) (sym c.put_domain.ensures.domains ∙ sym (present-history c.put_domain.new.domains.items c.put_domain.new.trail.items)) in
    λ v. subst (λ (d : Domain). (Holds d v → Holds (domain_at (present c.args.self.now) c.args.slot) v × Holds c.args.other v) × (Holds (domain_at (present c.args.self.now) c.args.slot) v × Holds c.args.other v → Holds d v)) now'
    (subst (λ (d : Domain). (Holds c.shared-next.result v → Holds d v × Holds c.args.other v) × (Holds d v × Holds c.args.other v → Holds c.shared-next.result v)) was (c.shared-next.ensures.values v))

pub returns-clause-marks : goal.returns-clause-marks
returns-clause-marks c =
    let a = c.self.inside in
    let ds = a.domains.items in
    let is = present_is ds a.trail.items c.args.self.now c.self.view_is in
    let lt : c.args.slot < length ds = omega (arith, ap length is) in
    let was : c.index.result.now ≡ domain_at (present c.args.self.now) c.args.slot =
    get_or_read ds c.args.slot c.index.result.now lt c.index.ensures no_values ∙ ap (λ (v : List Domain). domain_at v c.args.slot) (sym is) in
    c.put_domain.ensures.marks
    ∙ ap (λ (m : List (List Domain)). with_domain m c.args.slot c.shared-next.result) c.self.view_is
    ∙ ap (with_domain c.args.self.now c.args.slot) (c.shared-next.ensures.written ∙ ap (λ (d : Domain). shared d c.args.other) was)

pub returns-clause-slots : goal.returns-clause-slots
returns-clause-slots c =
    let a = c.self.inside in
    let ds = a.domains.items in
    ap length (present-history c.put_domain.new.domains.items c.put_domain.new.trail.items)
    ∙ ap length c.put_domain.ensures.domains
    ∙ length-set ds c.args.slot c.shared-next.result
    ∙ ap length (sym (present_is ds a.trail.items c.args.self.now c.self.view_is))

pub returns-clause-normal : goal.returns-clause-normal
returns-clause-normal c =
    let a = c.self.inside in
    let ds = a.domains.items in
    let is = present_is ds a.trail.items c.args.self.now c.self.view_is in
    let lt : c.args.slot < length ds = omega (arith, ap length is) in
    subst (λ (v : List Domain). IsNormal (domain_at v c.args.slot)) (sym is) (c.self.invariant.normal c.args.slot no_values lt)

pub returns-clause-domains : goal.returns-clause-domains
returns-clause-domains c =
    let marks = c.args.self.now in
    ap present (returns-clause-marks c) ∙ present-with_domain marks c.args.slot (shared (domain_at (present marks) c.args.slot) c.args.other) c.requires.slot
