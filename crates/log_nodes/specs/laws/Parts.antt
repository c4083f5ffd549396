-- Parts of splits that are left to read. Only clauses of private functions, and what skips a proof, cite it.
use Rattle.std.specs.Prelude.{◌≡◌, ℕ, ◌+◌, List, [], ◌∷◌, ◌++◌}
use Rattle.proof_tree.specs.Items.{tree_items}
use Rattle.proof_tree.specs.Nodes.{counted}
use Rattle.row_relax.specs.RowProofs.{RowItem, RowTree}
use Rattle.log_nodes.specs.declared.node.Ending.{Ending}
use Rattle.log_nodes.specs.declared.node.Node.{Node}
use Rattle.log_nodes.specs.declared.node.Ending.TheVariants.{Empty, Dual, Point, Pending, Split}
use Rattle.log_nodes.specs.laws.Nodes.{node_items}

-- how many boxes an end counts without what stands below it
abbrev pub boxes_at : Ending → ℕ
boxes_at (Pending cert) = 0
boxes_at Empty = 1
boxes_at (Dual cert) = 1
boxes_at Point = 1
boxes_at (Split pick cert) = 1

-- the parts below an end, each as how many nodes may stand one below another in it
abbrev pub parts_of : Ending → ℕ → List ℕ
parts_of (Split pick cert) room = room ∷ room ∷ []
parts_of Empty room = []
parts_of (Dual cert) room = []
parts_of Point room = []
parts_of (Pending cert) room = []

-- as many proofs as rooms stand here were read one after another, which count so many boxes
abbrev pub HasTrees : List ℕ → (List RowItem → Type 0) → ℕ → Type 0
HasTrees [] reads boxes = reads [] × (boxes ≡ 0)
HasTrees (room ∷ rooms) reads boxes = (tree : RowTree) × ((more : ℕ) × ((boxes ≡ counted tree + more) × HasTrees rooms (λ items. reads (tree_items tree ++ items)) more))

-- the next node was read, with so many boxes the count of it, and what stands below it is put before what is left to read
pub record HasSkipped (reads : List RowItem → Type 0) (room boxes : ℕ) (old new : List ℕ) (counts : ℕ) : Type 0 where
  pub node : Node
  pub read : reads (node_items node)
  pub left : new ≡ parts_of node.end room ++ old
  pub sum : counts ≡ boxes + boxes_at node.end
