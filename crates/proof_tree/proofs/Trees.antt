-- Lemmas on the caps of trees.
use Rattle.std.proofs.Common.{◌≡◌, List, [], Option, None, refl}
use Rattle.proof_tree.specs.declared.proof.End.{End, Empty, Dual, Point, Pending, Split'}
use Rattle.proof_tree.specs.Relaxation.{Steps}
use Rattle.proof_tree.specs.Views.{View}
use Rattle.proof_tree.specs.Tree.{tree_at, tree_cap, after_cuts, cap_if}

-- the cap of a node is that of its end over the view after its cuts
pub tree_cap-tree_at : {U C P F : Type 0} (s : Steps U C P) (v : View) (cuts : List U) (found : Option F) (end : End U C P F) → tree_cap s v (tree_at cuts found end) ≡ cap_if (after_cuts s v cuts) (λ w. tree_cap s w (tree_at [] None end))
tree_cap-tree_at s v cuts found Empty = refl
tree_cap-tree_at s v cuts found (Dual cert) = refl
tree_cap-tree_at s v cuts found Point = refl
tree_cap-tree_at s v cuts found (Pending cert) = refl
tree_cap-tree_at s v cuts found (Split' pick cert a cuts1 found1 end1 b cuts2 found2 end2) = refl
