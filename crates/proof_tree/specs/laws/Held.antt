-- The law that a taker that builds a tree keeps as a `NodeTaker`. A ghost member may cite specs/ alone, so its proof stands here.
use Rattle.std.specs.Prelude.{◌≡◌, []}
use Rattle.std.proofs.Common.{refl, subst, sym}
use Rattle.std.proofs.lemmas.List.{append-nil}
use Rattle.proof_tree.specs.declared.tree_taker.TreeTaker.{TreeTaker}
use Rattle.proof_tree.specs.Built.{HoldsItems, Holding}

-- where nothing changed, it holds no item besides
pub holding-none : {R K A U C P F O : Type 0} (taker : TreeTaker R K A U C P F) (out : O) → Holding taker [] taker × (out ≡ out)
holding-none taker out = (record { grown = λ held holds. subst (λ items. HoldsItems items taker) (sym (append-nil held)) holds }, refl)
