-- What a builder of a proof has built.
use Rattle.std.specs.Prelude.{◌≡◌, List, [], ◌∷◌, ◌++◌, map, Option, Some, None, option_to_list}
use Rattle.proof_tree.specs.declared.item.Item.{Item}
use Rattle.proof_tree.specs.declared.item.Item.TheVariants.{Node, Cut, Found, Split}
use Rattle.proof_tree.specs.declared.builder.BegunNode.{BegunNode}
use Rattle.proof_tree.specs.declared.builder.SplitNode.{SplitNode}
use Rattle.proof_tree.specs.declared.builder.TreeBuilder.{TreeBuilder}
use Rattle.proof_tree.specs.declared.builder.Built.{Built}
use Rattle.proof_tree.specs.declared.builder.Built.TheVariants.{More, Whole}
use Rattle.proof_tree.specs.declared.proof.Proof.{Proof}
use Rattle.proof_tree.specs.declared.tree_taker.TreeTaker.{TreeTaker}
use Rattle.proof_tree.specs.Form.{form_of, MayComeAfter}
use Rattle.proof_tree.specs.Walk.{misplaced}
use Rattle.proof_tree.specs.Items.{tree_items}
use Rattle.proof_tree.specs.Tree.{tree_of}

-- the items of what is there, and none of what is not
abbrev pub items_if : {X I : Type 0} → (X → List I) → Option X → List I
items_if items_of None = []
items_if items_of (Some x) = items_of x

-- the items of a proof
abbrev pub proof_items : {R A U C P F : Type 0} → Proof U C P F → List (Item R A U C P F)
proof_items proof = tree_items (tree_of proof)

-- the items of a node that has begun: the node, its cuts, and its found point if that has come
abbrev pub begun_items : {R A U C P F : Type 0} → BegunNode U F → List (Item R A U C P F)
begun_items node = Node ∷ (map Cut node.cuts ++ map Found (option_to_list node.found))

-- the items of an open split: those of its node, the split, and those of its left part if that has ended
abbrev pub split_items : {R A U C P F : Type 0} → SplitNode U C P F → List (Item R A U C P F)
split_items split = begun_items split.node ++ Split split.pick split.cert ∷ items_if proof_items split.left

-- the items of open splits, from the outermost in; the innermost stands first
abbrev pub splits_items : {R A U C P F : Type 0} → List (SplitNode U C P F) → List (Item R A U C P F)
splits_items [] = []
splits_items (split ∷ splits) = splits_items splits ++ split_items split

-- the items are those that the builder holds: those of its open splits, and those of the node that has begun
pub record HasBuilt {R A U C P F : Type 0} (items : List (Item R A U C P F)) (builder : TreeBuilder R A U C P F) : Type 0 where
  pub same : items ≡ splits_items builder.splits ++ items_if begun_items builder.begun

-- an item may come after the items that the builder holds
abbrev pub MayComeIn : {R A U C P F : Type 0} → TreeBuilder R A U C P F → Item R A U C P F → Type 0
MayComeIn {R} {A} {U} {C} {P} {F} builder item = (items : List (Item R A U C P F)) → HasBuilt items builder → MayComeAfter items item

-- an item is out of place after the items that the builder holds
abbrev pub IsOutOfPlace : {R A U C P F : Type 0} → TreeBuilder R A U C P F → Item R A U C P F → Type 0
IsOutOfPlace {R} {A} {U} {C} {P} {F} builder item = (items : List (Item R A U C P F)) → HasBuilt items builder → form_of (items ++ item ∷ []) ≡ misplaced

-- what was built of these items: a part of a proof, or the proof whose items they are
abbrev pub IsBuilt : {R A U C P F : Type 0} → List (Item R A U C P F) → Built R A U C P F → Type 0
IsBuilt items (More builder) = HasBuilt items builder
IsBuilt items (Whole proof) = items ≡ tree_items (tree_of proof)

-- what is held of these items: what was built of them, or nothing, where one of them may not come where it comes
abbrev pub HoldsBuilt : {R A U C P F : Type 0} → List (Item R A U C P F) → Option (Built R A U C P F) → Type 0
HoldsBuilt items None = form_of items ≡ misplaced
HoldsBuilt items (Some built) = IsBuilt items built

-- the items are those that the taker holds
pub record HoldsItems {R K A U C P F : Type 0} (items : List (Item R A U C P F)) (taker : TreeTaker R K A U C P F) : Type 0 where
  pub held : HoldsBuilt items taker.built

-- whatever items the taker held, it now holds these besides
pub record Holding {R K A U C P F : Type 0} (before : TreeTaker R K A U C P F) (items : List (Item R A U C P F)) (after : TreeTaker R K A U C P F) : Type 0 where
  pub grown : (held : List (Item R A U C P F)) → HoldsItems held before → HoldsItems (held ++ items) after
