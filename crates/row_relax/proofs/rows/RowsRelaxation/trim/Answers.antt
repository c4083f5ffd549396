-- The floor leaves what its definition says.
use Rattle.std.proofs.Common.{◌∙◌, Some, List, map, sym, ap, subst}
use Rattle.std.specs.List.{All}
use Rattle.row_kit.specs.declared.domain.Domain.{Domain}
use Rattle.row_kit.specs.Area.{present}
use Rattle.row_kit.specs.Domain.{IsNormal}
use Rattle.dual_bound.specs.Trimmed.{trimmed}
use Rattle.dual_bound.proofs.Floors.{trimmed_normal}
use Rattle.proof_tree.specs.Views.{present as shown_last}
use Rattle.row_relax.specs.Steps.{floor_by, row_steps, view_by}
use Rattle.row_relax.specs.View.{domains_of, view_of}
use Rattle.row_relax.proofs.Marks.{domains-views, fits_normal, fits_now, fits_slots, keeps_views, shown-views}
use Rattle.row_relax.proofs.rows.RowsRelaxation.trim.Goals as goal

pub returns-in-None-clause-floor : goal.returns-in-None-clause-floor
unfolding row_steps
returns-in-None-clause-floor c =
    let ds = domains_of (shown_last (map view_of c.args.area.now)) in
    sym (ap (floor_by c.args.self.now.program ds c.args.cert.now) c.in-None.is)

pub returns-in-None-clause-trimmed : goal.returns-in-None-clause-trimmed
unfolding row_steps
returns-in-None-clause-trimmed c =
    sym (ap (view_by c.args.self.now.program (shown_last (map view_of c.args.area.now)) c.args.cert.now) c.in-None.is)

pub forget-requires : goal.forget-requires
forget-requires c = fits_slots c.args.self.now.program c.args.area.now c.requires

pub returns-in-Some-clause-fits : goal.returns-in-Some-clause-fits
returns-in-Some-clause-fits c =
    let program = c.args.self.now.program in
    let ds = present c.args.area.now in
    fits_now program c.forget.new.area (c.forget.ensures.slots ∙ fits_slots program c.args.area.now c.requires)
    (subst (All IsNormal) (sym c.forget.ensures.left) (trimmed_normal program ds c.args.cert.now c.in-Some.floor (fits_normal program c.args.area.now c.requires)))

pub returns-in-Some-clause-floor : goal.returns-in-Some-clause-floor
unfolding row_steps
returns-in-Some-clause-floor c =
    let program = c.args.self.now.program in
    c.forget.ensures.floor
    ∙ ap (λ (ds : List Domain). floor_by program ds c.args.cert.now (Some c.in-Some.floor)) (sym (domains-views c.args.area.now))
    ∙ sym (ap (floor_by program (domains_of (shown_last (map view_of c.args.area.now))) c.args.cert.now) c.in-Some.is)

pub returns-in-Some-clause-trimmed : goal.returns-in-Some-clause-trimmed
unfolding row_steps
returns-in-Some-clause-trimmed c =
    let program = c.args.self.now.program in
    shown-views c.forget.new.area
    ∙ ap view_of (c.forget.ensures.left ∙ ap (λ (ds : List Domain). trimmed program ds c.args.cert.now c.in-Some.floor) (sym (domains-views c.args.area.now)))
    ∙ sym (ap (view_by program (shown_last (map view_of c.args.area.now)) c.args.cert.now) c.in-Some.is)

pub returns-in-Some-clause-keeps : goal.returns-in-Some-clause-keeps
returns-in-Some-clause-keeps c = keeps_views c.args.area.now c.forget.new.area c.forget.ensures.keeps
