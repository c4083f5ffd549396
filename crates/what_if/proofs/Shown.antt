-- The loose cap of a node, by its end, and the areas that show the same.
use Rattle.std.proofs.Common.{◌≡◌, Bool, List, [], ◌∷◌, map, Option, None, refl, sym, ap, ◌∙◌}
use Rattle.row_kit.specs.declared.domain.Domain.{Domain}
use Rattle.row_kit.specs.declared.found.Found.{Found}
use Rattle.range_prop.specs.declared.row_cut.RowCut.{RowCut}
use Rattle.dual_bound.specs.declared.cert.Cert.{Cert}
use Rattle.proof_tree.specs.declared.proof.End.{End, Empty, Dual, Point, Pending, Split'}
use Rattle.proof_tree.specs.Tree.{tree_at}
use Rattle.proof_tree.specs.Views.{View}
use Rattle.row_relax.specs.declared.pick.RowPick.{RowPick}
use Rattle.row_relax.specs.declared.rows.Rows.{Rows}
use Rattle.row_relax.specs.View.{view_of}
use Rattle.row_relax.specs.laws.Shown.{domains_of-view_of}
use Rattle.row_relax.specs.View.{domains_of}
use Rattle.what_if.specs.Loose.{after_all, loose_cap, loosened}
use Rattle.what_if.specs.laws.Own.{own_cap}

-- the loose cap of a node is what its end gives over the view after its cuts
pub loose_cap-tree_at : (capped : Bool) (rows : Rows) (v : View) (cuts : List RowCut) (found : Option Found) (end : End RowCut Cert RowPick Found)
    → loose_cap capped rows v (tree_at cuts found end) ≡ loosened rows.program (after_all rows.program v cuts) (own_cap capped rows (after_all rows.program v cuts) (tree_at [] None end))
loose_cap-tree_at capped rows v cuts found Empty = refl
loose_cap-tree_at capped rows v cuts found (Dual cert) = refl
loose_cap-tree_at capped rows v cuts found Point = refl
loose_cap-tree_at capped rows v cuts found (Pending cert) = refl
loose_cap-tree_at capped rows v cuts found (Split' pick cert a cuts1 found1 end1 b cuts2 found2 end2) = refl

-- the domains of views
shown_again : (marks : List (List Domain)) → map domains_of (map view_of marks) ≡ marks
shown_again [] = refl
shown_again (ds ∷ marks) = ap (λ (xs : List Domain). xs ∷ map domains_of (map view_of marks)) (domains_of-view_of ds) ∙ ap (λ (rest : List (List Domain)). ds ∷ rest) (shown_again marks)

-- areas whose views are the same are the same
pub same_marks : (old new : List (List Domain)) → map view_of new ≡ map view_of old → new ≡ old
same_marks old new same = sym (shown_again new) ∙ ap (map domains_of) same ∙ shown_again old
