-- The slot keeps what it shares with the part.
use Rattle.std.proofs.Common.{◌≡◌, ◌∙◌, ◌<◌, true, false, ltb, List, length, map, set, sym, ap, subst, arith}
use Rattle.std.specs.List.{All}
use Rattle.std.proofs.lemmas.Bool.{lt-ltb}
use Rattle.std.proofs.lemmas.Bool.Decides.{nat_tests}
use Rattle.std.proofs.lemmas.List.Elements.{All-set}
use Rattle.row_kit.specs.declared.domain.Domain.{Domain}
use Rattle.row_kit.specs.Area.{present}
use Rattle.row_kit.specs.Domain.{IsNormal, domain_at, no_values, over, shared}
use Rattle.row_kit.proofs.Marks.{present-with_domain}
use Rattle.row_kit.proofs.Parts.{shared_normal}
use Rattle.proof_tree.specs.Views.{MovesTo}
use Rattle.row_kit.specs.Points.{kept_at}
use Rattle.row_relax.specs.Steps.{row_steps, shown_if}
use Rattle.row_relax.specs.View.{view_of}
use Rattle.row_relax.proofs.Marks.{domains-views, fits_normal, fits_now, fits_slots, moves_nowhere, moves_there}
use Rattle.row_relax.proofs.rows.RowsRelaxation.right.Goals as goal

pub returns-then-pick-slot_count-clause-moves : goal.returns-then-pick-slot_count-clause-moves
unfolding row_steps
returns-then-pick-slot_count-clause-moves c =
    let marks = c.args.area.now in
    let pick = c.args.pick.now in
    let past : ltb pick.slot (length (present marks)) ≡ false = grind (arith, nat_tests, c.slot_count.ensures.count) in
    subst (λ (ds : List Domain). MovesTo (shown_if (ltb pick.slot (length ds)) (kept_at ds pick.slot (over pick.max))) (map view_of marks) (map view_of marks) false) (sym (domains-views marks))
    (moves_nowhere marks (kept_at (present marks) pick.slot (over pick.max)) (ltb pick.slot (length (present marks))) past)

pub returns-clause-moves : goal.returns-clause-moves
unfolding row_steps
returns-clause-moves c =
    let marks = c.args.area.now in
    let pick = c.args.pick.now in
    let new' = c.above.new.self in
    let lt : pick.slot < length (present marks) = omega (arith, c.if-pick-slot_count.false, c.slot_count.ensures.count) in
    subst (λ (ds : List Domain). MovesTo (shown_if (ltb pick.slot (length ds)) (kept_at ds pick.slot (over pick.max))) (map view_of marks) (map view_of new') true) (sym (domains-views marks))
    (moves_there marks new' pick.slot (shared (domain_at (present marks) pick.slot) (over pick.max)) (ltb pick.slot (length (present marks))) (lt-ltb pick.slot (length (present marks)) lt) lt c.above.ensures.marks)

pub returns-clause-fits : goal.returns-clause-fits
returns-clause-fits c =
    let program = c.args.self.now.program in
    let marks = c.args.area.now in
    let pick = c.args.pick.now in
    let new' = c.above.new.self in
    let d = shared (domain_at (present marks) pick.slot) (over pick.max) in
    let lt : pick.slot < length (present marks) = omega (arith, c.if-pick-slot_count.false, c.slot_count.ensures.count) in
    let normal' = fits_normal program marks c.requires in
    let at : present new' ≡ set (present marks) pick.slot d = ap present c.above.ensures.marks ∙ present-with_domain marks pick.slot d lt in
    fits_now program new' (c.above.ensures.slots ∙ fits_slots program marks c.requires)
    (subst (All IsNormal) (sym at) (All-set IsNormal (present marks) pick.slot d (shared_normal (domain_at (present marks) pick.slot) (over pick.max) (normal' pick.slot no_values lt)) normal'))
