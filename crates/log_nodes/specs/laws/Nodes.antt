-- Nodes of proofs as they are read, and the trees that they begin.
use Rattle.std.specs.Prelude.{◌≡◌, ℕ, ◌+◌, ⊤, List, [], ◌∷◌, ◌++◌, map, Option, option_to_list}
use Rattle.row_kit.specs.declared.found.Found.{Found}
use Rattle.range_prop.specs.declared.row_cut.RowCut.{RowCut}
use Rattle.dual_bound.specs.declared.cert.Cert.{Cert}
use Rattle.proof_tree.specs.declared.item.Item.TheVariants as item
use Rattle.proof_tree.specs.Items.{tree_items}
use Rattle.proof_tree.specs.Nodes.{counted}
use Rattle.proof_tree.specs.Tree.{Leaf, no_point, dual, one_point, pending, leaf, split}
use Rattle.row_relax.specs.RowProofs.{RowItem, RowTree}
use Rattle.log_nodes.specs.declared.node.Node.{Node}
use Rattle.log_nodes.specs.declared.node.Ending.{Ending}
use Rattle.log_nodes.specs.declared.node.Ending.TheVariants.{Empty, Dual, Point, Pending, Split}

-- the item of an end
abbrev pub item_of : Ending → RowItem
item_of Empty = item.Empty
item_of (Dual cert) = item.Dual cert
item_of Point = item.Point
item_of (Pending cert) = item.Pending cert
item_of (Split pick cert) = item.Split pick cert

-- the items of a node without what stands below it
abbrev pub node_items : Node → List RowItem
node_items node = item.Node ∷ (map item.Cut node.cuts ++ (map item.Found (option_to_list node.found) ++ (item_of node.end ∷ [])))

-- an end that splits nothing
abbrev pub IsLeafEnd : Ending → Type 0
IsLeafEnd (Split pick cert) = ⊥
IsLeafEnd Empty = ⊤
IsLeafEnd (Dual cert) = ⊤
IsLeafEnd Point = ⊤
IsLeafEnd (Pending cert) = ⊤

-- the leaf that such an end is
abbrev pub leaf_of : Ending → Leaf Cert
leaf_of Empty = no_point
leaf_of (Dual cert) = dual cert
leaf_of Point = one_point
leaf_of (Pending cert) = pending cert
leaf_of (Split pick cert) = no_point

-- how many boxes a leaf counts
abbrev pub counted_leaf : Leaf Cert → ℕ
counted_leaf no_point = 1
counted_leaf (dual cert) = 1
counted_leaf one_point = 1
counted_leaf (pending cert) = 0

-- what stands below a node that has this end: nothing, or two parts
abbrev pub Below : Ending → Type 0
Below (Split pick cert) = RowTree × RowTree
Below Empty = ⊤
Below (Dual cert) = ⊤
Below Point = ⊤
Below (Pending cert) = ⊤

-- the items of that
abbrev pub below_items : (end : Ending) → Below end → List RowItem
below_items (Split pick cert) below = tree_items below.0 ++ tree_items below.1
below_items Empty below = []
below_items (Dual cert) below = []
below_items Point below = []
below_items (Pending cert) below = []

-- the tree of a node with these cuts and this found point, and what stands below its end
abbrev pub tree_with : List RowCut → Option Found → (end : Ending) → Below end → RowTree
tree_with cuts found (Split pick cert) below = split cuts found pick cert below.0 below.1
tree_with cuts found Empty below = leaf cuts found no_point
tree_with cuts found (Dual cert) below = leaf cuts found (dual cert)
tree_with cuts found Point below = leaf cuts found one_point
tree_with cuts found (Pending cert) below = leaf cuts found (pending cert)

-- how many boxes it counts
abbrev pub counted_with : (end : Ending) → Below end → ℕ
counted_with (Split pick cert) below = 1 + counted below.0 + counted below.1
counted_with Empty below = 1
counted_with (Dual cert) below = 1
counted_with Point below = 1
counted_with (Pending cert) below = 0

-- what stands below an end was read, and with it so many boxes are counted
pub record HasBelow (reads : List RowItem → Type 0) (end : Ending) (boxes : ℕ) : Type 0 where
  pub below : Below end
  pub read : reads (below_items end below)
  pub counts : boxes ≡ counted_with end below

-- a whole proof was read, which counts so many boxes
pub record HasTree (reads : List RowItem → Type 0) (boxes : ℕ) : Type 0 where
  pub tree : RowTree
  pub read : reads (tree_items tree)
  pub counts : boxes ≡ counted tree
