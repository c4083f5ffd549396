-- The cut leads to the domains that its definition gives.
use Rattle.std.proofs.Common.{◌≡◌, ◌∙◌, ◌<◌, Bool, true, false, ◌&&◌, ltb, List, length, map, set, refl, sym, ap, subst, arith}
use Rattle.std.specs.List.{All}
use Rattle.std.proofs.lemmas.Bool.{lt-ltb}
use Rattle.std.proofs.lemmas.Bool.Decides.{nat_tests}
use Rattle.std.proofs.lemmas.List.Elements.{All-set}
use Rattle.row_kit.specs.Row.{row_at}
use Rattle.row_kit.specs.declared.domain.Domain.{Domain}
use Rattle.row_kit.specs.Area.{present}
use Rattle.row_kit.specs.Domain.{IsNormal, no_values}
use Rattle.row_kit.proofs.Marks.{present-with_domain}
use Rattle.range_prop.specs.Cut.{cut_domain, cut_domains}
use Rattle.range_prop.proofs.CutLaws.{cut_normal}
use Rattle.proof_tree.specs.Views.{MovesTo}
use Rattle.row_relax.specs.Steps.{row_steps, shown_if}
use Rattle.row_relax.specs.View.{view_of}
use Rattle.row_relax.proofs.Marks.{domains-views, fits_normal, fits_now, fits_slots, moves_nowhere, moves_there}
use Rattle.row_relax.proofs.rows.RowsRelaxation.cut.Goals as goal

first_false : (a b : Bool) → a ≡ false → (a && b) ≡ false
first_false a b e = cc

second_false : (a b : Bool) → b ≡ false → (a && b) ≡ false
second_false true b e = e
second_false false b e = refl

both_true : (a b : Bool) → a ≡ true → b ≡ true → (a && b) ≡ true
both_true a b e h = cc

pub cut-requires-clause-slots : goal.cut-requires-clause-slots
cut-requires-clause-slots c = fits_slots c.args.self.now.program c.args.area.now c.requires

pub returns-then-trim-len-clause-moves : goal.returns-then-trim-len-clause-moves
unfolding row_steps
returns-then-trim-len-clause-moves c =
    let program = c.args.self.now.program in
    let marks = c.args.area.now in
    let trim = c.args.trim.now in
    let past : ltb trim.row (length program.rows) ≡ false = grind (arith, nat_tests, c.len.ensures) in
    subst (λ (ds : List Domain). MovesTo (shown_if (ltb trim.row (length program.rows) && ltb trim.slot (length ds)) (cut_domains (row_at program.rows trim.row) trim.slot ds)) (map view_of marks) (map view_of marks) false) (sym (domains-views marks))
    (moves_nowhere marks (cut_domains (row_at program.rows trim.row) trim.slot (present marks)) (ltb trim.row (length program.rows) && ltb trim.slot (length (present marks))) (first_false (ltb trim.row (length program.rows)) (ltb trim.slot (length (present marks))) past))

pub returns-then-trim-slot_count-clause-moves : goal.returns-then-trim-slot_count-clause-moves
unfolding row_steps
returns-then-trim-slot_count-clause-moves c =
    let program = c.args.self.now.program in
    let marks = c.args.area.now in
    let trim = c.args.trim.now in
    let past : ltb trim.slot (length (present marks)) ≡ false = grind (arith, nat_tests, c.slot_count.ensures.count) in
    subst (λ (ds : List Domain). MovesTo (shown_if (ltb trim.row (length program.rows) && ltb trim.slot (length ds)) (cut_domains (row_at program.rows trim.row) trim.slot ds)) (map view_of marks) (map view_of marks) false) (sym (domains-views marks))
    (moves_nowhere marks (cut_domains (row_at program.rows trim.row) trim.slot (present marks)) (ltb trim.row (length program.rows) && ltb trim.slot (length (present marks))) (second_false (ltb trim.row (length program.rows)) (ltb trim.slot (length (present marks))) past))

pub returns-clause-moves : goal.returns-clause-moves
unfolding row_steps
returns-clause-moves c =
    let program = c.args.self.now.program in
    let marks = c.args.area.now in
    let trim = c.args.trim.now in
    let new' = c.cut.new.area in
    let in_rows : trim.row < length program.rows = omega (arith, c.if-trim-len.false, c.len.ensures) in
    let lt : trim.slot < length (present marks) = omega (arith, c.if-trim-slot_count.false, c.slot_count.ensures.count) in
    let there = both_true (ltb trim.row (length program.rows)) (ltb trim.slot (length (present marks))) (lt-ltb trim.row (length program.rows) in_rows) (lt-ltb trim.slot (length (present marks)) lt) in
    subst (λ (ds : List Domain). MovesTo (shown_if (ltb trim.row (length program.rows) && ltb trim.slot (length ds)) (cut_domains (row_at program.rows trim.row) trim.slot ds)) (map view_of marks) (map view_of new') true) (sym (domains-views marks))
    (moves_there marks new' trim.slot (cut_domain (row_at program.rows trim.row) trim.slot (present marks)) (ltb trim.row (length program.rows) && ltb trim.slot (length (present marks))) there lt c.cut.ensures.marks)

pub returns-clause-fits : goal.returns-clause-fits
returns-clause-fits c =
    let program = c.args.self.now.program in
    let marks = c.args.area.now in
    let trim = c.args.trim.now in
    let new' = c.cut.new.area in
    let row = row_at program.rows trim.row in
    let d = cut_domain row trim.slot (present marks) in
    let lt : trim.slot < length (present marks) = omega (arith, c.if-trim-slot_count.false, c.slot_count.ensures.count) in
    let normal' = fits_normal program marks c.requires in
    let at : present new' ≡ set (present marks) trim.slot d = ap present c.cut.ensures.marks ∙ present-with_domain marks trim.slot d lt in
    fits_now program new' (c.cut.ensures.slots ∙ fits_slots program marks c.requires)
    (subst (All IsNormal) (sym at) (All-set IsNormal (present marks) trim.slot d (cut_normal row trim.slot (present marks) (normal' trim.slot no_values lt)) normal'))
