-- Cuts that were made lead to the view that the area shows afterwards.
use Rattle.std.proofs.Common.{◌≡◌, ℕ, ◌<◌, Bool, true, ◌&&◌, ltb, List, [], ◌∷◌, ◌++◌, map, length, Option, Some, refl, sym, ap, ◌∙◌, subst}
use Rattle.std.specs.Prelude.{option_and_then, IfSome}
use Rattle.std.specs.List.{All}
use Rattle.std.proofs.Math.Seq.{take-length}
use Rattle.std.proofs.lemmas.Bool.{lt-ltb}
use Rattle.std.proofs.lemmas.List.Elements.{All-cons, All-nil}
use Rattle.row_kit.specs.declared.domain.Domain.{Domain}
use Rattle.row_kit.specs.declared.program.Program.{Program}
use Rattle.row_kit.specs.Area.{present}
use Rattle.row_kit.specs.Row.{row_at}
use Rattle.range_prop.specs.declared.row_cut.RowCut.{RowCut}
use Rattle.range_prop.specs.Cut.{cut_domain, cut_domains}
use Rattle.range_prop.specs.Cuts.{AreMade, HasCut, HaveRoomBut, after_cut, after_cuts as marks_after}
use Rattle.proof_tree.specs.declared.item.Item.TheVariants.{Cut as CutItem}
use Rattle.proof_tree.specs.Tree.{after_cuts}
use Rattle.proof_tree.specs.Views.{KeepsViews, MovesTo, View}
use Rattle.proof_tree.proofs.Views.{KeepsViews-then}
use Rattle.row_relax.specs.Steps.{row_steps, shown_if}
use Rattle.row_relax.specs.View.{Fits, domains_of, view_of}
use Rattle.row_relax.specs.laws.Laws.{rows_sound}
use Rattle.row_relax.proofs.Marks.{domains-views, fits_slots, moves_there}
use Rattle.row_relax.specs.declared.rows.Rows.{Rows}
use Rattle.row_relax.specs.Choices.{steps_of}
use Rattle.branch_tree.specs.Searched.{IsFitItem}
use Rattle.branch_tree.specs.laws.Grounds.{seen}

-- what cuts lead to
pub record CutsLead (rows : Rows) (old new : List (List Domain)) (cuts : List RowCut) : Type 0 where
  pub moved : after_cuts (steps_of rows) (seen old) cuts ≡ Some (seen new)
  pub keeps : KeepsViews (map view_of old) (map view_of new)
  pub fits : Fits rows.program (seen new)
  pub fit : (floors : Bool) → All (IsFitItem rows floors) (map CutItem cuts)

both_true : (a b : Bool) → a ≡ true → b ≡ true → (a && b) ≡ true
both_true a b e h = cc

-- one cut
one_moves : (rows : Rows) (cut : RowCut) (old : List (List Domain)) → cut.row < length rows.program.rows → cut.slot < length (present old)
    → MovesTo ((steps_of rows).cut (seen old) cut) (map view_of old) (map view_of (after_cut rows.program.rows cut old)) true
unfolding row_steps
one_moves rows cut old row slot =
    let there = both_true (ltb cut.row (length rows.program.rows)) (ltb cut.slot (length (present old))) (lt-ltb cut.row (length rows.program.rows) row) (lt-ltb cut.slot (length (present old)) slot) in
    subst (λ (ds : List Domain). MovesTo (shown_if (ltb cut.row (length rows.program.rows) && ltb cut.slot (length ds)) (cut_domains (row_at rows.program.rows cut.row) cut.slot ds)) (map view_of old) (map view_of (after_cut rows.program.rows cut old)) true) (sym (domains-views old))
    (moves_there old (after_cut rows.program.rows cut old) cut.slot (cut_domain (row_at rows.program.rows cut.row) cut.slot (present old)) (ltb cut.row (length rows.program.rows) && ltb cut.slot (length (present old))) there slot refl)

-- cuts that were made, one after another
pub cuts_lead : (rows : Rows) (cuts : List RowCut) (old : List (List Domain)) → Fits rows.program (seen old) → AreMade rows.program.rows cuts old → CutsLead rows old (marks_after rows.program.rows cuts old) cuts
cuts_lead rows [] old fit made = record { moved = refl; keeps = kept_itself (map view_of old); fits = fit; fit = λ floors. All-nil (IsFitItem rows floors) }
  where
    kept_itself : (views : List View) → KeepsViews views views
    kept_itself views = take-length views
cuts_lead rows (cut ∷ cuts) old fit made =
    let first = one_moves rows cut old made.0.row made.0.slot in
    let fit' = (rows_sound rows.program).cut_fits (seen old) (seen (after_cut rows.program.rows cut old)) cut fit first.0 in
    let rest = cuts_lead rows cuts (after_cut rows.program.rows cut old) fit' made.1 in
    record {
      moved = ap (λ next. option_and_then (λ w. after_cuts (steps_of rows) w cuts) next) first.0 ∙ rest.moved;
      keeps = KeepsViews-then (map view_of old) (map view_of (after_cut rows.program.rows cut old)) (map view_of (marks_after rows.program.rows cuts (after_cut rows.program.rows cut old))) first.1 rest.keeps;
      fits = rest.fits;
      fit = λ floors. All-cons (IsFitItem rows floors) (CutItem cut) (map CutItem cuts) (made.0.row, subst (λ n. cut.slot < n) (fits_slots rows.program old fit) made.0.slot) (rest.fit floors);
    }

-- so a list that has grown by cuts from nothing leads there
pub has_cut-leads : (rows : Rows) (old new : List (List Domain)) (before after : List RowCut) → Fits rows.program (seen old) → before ≡ [] → HasCut rows.program.rows old new before after → CutsLead rows old new after
has_cut-leads rows old new before after fit none cut =
    let same : cut.made ≡ after = sym (cut.listed ∙ ap (λ xs. xs ++ cut.made) none) in
    subst (CutsLead rows old new) same (subst (λ marks. CutsLead rows old marks cut.made) (sym cut.led) (cuts_lead rows cut.made old fit cut.each))

-- room in the domains that a view shows
pub room_shown : (program : Program) (marks : List (List Domain)) (changed : Option ℕ) → IfSome changed (λ slot. (slot < length program.root) × HaveRoomBut program.rows (slot ∷ []) (domains_of (seen marks)))
    → IfSome changed (λ slot. (slot < length program.root) × HaveRoomBut program.rows (slot ∷ []) (present marks))
room_shown program marks changed room = subst (λ (ds : List Domain). IfSome changed (λ slot. (slot < length program.root) × HaveRoomBut program.rows (slot ∷ []) ds)) (domains-views marks) room
