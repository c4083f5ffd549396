-- Nodes that split, and answers about them.
use Rattle.std.proofs.Common.{◌≡◌, ◌∙◌, List, [], ◌∷◌, Option, None, Some, refl, ap, subst, sym}
use Rattle.std.specs.Prelude.{IfOk, IfSome, Result, Ok, Err, option_and_then}
use Rattle.proof_tree.specs.declared.item.Item.TheVariants as item
use Rattle.proof_tree.specs.Tree.{after_cuts}
use Rattle.proof_tree.specs.Views.{View}
use Rattle.range_prop.specs.declared.row_cut.RowCut.{RowCut}
use Rattle.dual_bound.specs.declared.cert.Cert.{Cert}
use Rattle.row_relax.specs.declared.pick.RowPick.{RowPick}
use Rattle.row_relax.specs.declared.rows.Rows.{Rows}
use Rattle.row_relax.specs.Choices.{steps_of}
use Rattle.row_relax.specs.RowProofs.{RowItem}
use Rattle.row_relax.specs.Steps.{row_steps}
use Rattle.log_nodes.specs.declared.node.Ending.{Ending}
use Rattle.log_nodes.specs.declared.node.Ending.TheVariants.{Empty, Dual, Point, Pending, Split}
use Rattle.log_nodes.specs.laws.Nodes.{item_of}

-- an end whose item is a split is that split
split-at : (end : Ending) (pick : RowPick) (cert : Cert) → ◌≡◌ {A = RowItem} (item_of end) (item.Split pick cert) → end ≡ Split pick cert
split-at Empty pick cert is = absurd cc
split-at (Dual c) pick cert is = absurd cc
split-at Point pick cert is = absurd cc
split-at (Pending c) pick cert is = absurd cc
split-at (Split p c) pick cert is =
    let same_pick : p ≡ pick = cc in
    let same_cert : c ≡ cert = cc in
    ap (λ (own : RowPick). Split own c) same_pick ∙ ap (Split pick) same_cert

pub split-end : (end : Ending) (pick : RowPick) (cert : Cert) (own : RowItem) → own ≡ item_of end → own ≡ item.Split pick cert → end ≡ Split pick cert
split-end end pick cert own made is = split-at end pick cert (sym made ∙ is)

-- the view that comes next is the same
next-same : (f h : View → Option View) → ((w : View) → f w ≡ h w) → (o : Option View) → option_and_then f o ≡ option_and_then h o
next-same f h same None = refl
next-same f h same (Some w) = same w

-- cuts lead to the same view, by whatever program points are judged
pub same-cuts : (rows : Rows) (view : View) (cuts : List RowCut) → after_cuts (steps_of rows) view cuts ≡ after_cuts (row_steps rows.program) view cuts
same-cuts rows view [] = refl
same-cuts rows view (u ∷ us) = next-same (λ w. after_cuts (steps_of rows) w us) (λ w. after_cuts (row_steps rows.program) w us) (λ w. same-cuts rows w us) ((row_steps rows.program).cut view u)

-- ---- answers

-- what holds holds of every answer
pub answer-always : {X E : Type 0} (result : Result (Option X) E) (P : Type 0) → P → IfOk result (λ o. IfSome o (λ _. P))
answer-always (Ok (Some x)) P is = is
answer-always (Ok None) P is = tt
answer-always (Err e) P is = tt

-- the answer is the end that was put
pub end-answer : {X E : Type 0} (result : Result (Option X) E) (own : X) (Q : Type 0) (P : X → Type 0) → IfOk result (λ o. (o ≡ Some own) × Q) → (Q → P own) → IfOk result (λ o. IfSome o P)
end-answer {X} (Ok o) own Q P is then_ = subst (λ (other : Option X). IfSome other P) (sym is.0) (then_ is.1)
end-answer (Err e) own Q P is then_ = tt

-- what is not there is none
pub none-there : {X : Type 0} (o : Option X) → ((x : X) → o ≡ Some x → ⊥) → o ≡ None
none-there None other = refl
none-there (Some x) other = absurd (other x refl)
