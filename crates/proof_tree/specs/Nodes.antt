-- What holds at each node of a tree, and what a tree holds in all.
use Rattle.std.specs.Prelude.{ℕ, ◌+◌, List, [], ◌++◌, Option, Some, None, option_to_list, IsSomeAnd, ⊤}
use Rattle.proof_tree.specs.Relaxation.{Steps}
use Rattle.proof_tree.specs.Tree.{Leaf, no_point, dual, one_point, pending, Tree, leaf, split, after_cuts}
use Rattle.proof_tree.specs.Views.{View}

-- how many boxes a tree counts: its nodes that end, but for those that are left open
abbrev pub counted : {U C P F : Type 0} → Tree U C P F → ℕ
counted (leaf cuts found no_point) = 1
counted (leaf cuts found (dual cert)) = 1
counted (leaf cuts found one_point) = 1
counted (leaf cuts found (pending cert)) = 0
counted (split cuts found pick cert a b) = 1 + counted a + counted b

-- the found points of a tree, in prefix order
abbrev pub found_points : {U C P F : Type 0} → Tree U C P F → List F
found_points (leaf cuts found end) = option_to_list found
found_points (split cuts found pick cert a b) = option_to_list found ++ (found_points a ++ found_points b)

-- how a node ends, without what stands below it
pub data NodeEnd (C P : Type 0) : Type 0 where
  closed : Leaf C → NodeEnd C P
  parted : P → C → NodeEnd C P

-- a node where it stands: the certificate that its parent holds, the found points before it in prefix order, its cuts, its own found point, its view after its cuts, and its end
pub record Node (U C P F : Type 0) : Type 0 where
  pub parent : Option C
  pub before : List F
  pub cuts : List U
  pub found : Option F
  pub view : View
  pub end : NodeEnd C P

-- each node has a view after its cuts, and the fact holds of it; a split's parts are those of what it has not forgotten; the tree hangs below a parent's certificate, after some found points, over a view
abbrev pub EachNode : {U C P F : Type 0} → (Node U C P F → Type 0) → Steps U C P → Option C → List F → View → Tree U C P F → Type 0
EachNode Holds s parent before v (leaf cuts found end) =
    IsSomeAnd (after_cuts s v cuts)
    (λ w. Holds (record { parent = parent; before = before; cuts = cuts; found = found; view = w; end = closed end }))
EachNode Holds s parent before v (split cuts found pick cert a b) =
    IsSomeAnd (after_cuts s v cuts)
    (λ w. Holds (record { parent = parent; before = before; cuts = cuts; found = found; view = w; end = parted pick cert })
    × IsSomeAnd (s.left (s.trim w pick cert) pick) (λ x. EachNode Holds s (Some cert) (before ++ option_to_list found) x a)
    × IsSomeAnd (s.right (s.trim w pick cert) pick) (λ y. EachNode Holds s (Some cert) (before ++ (option_to_list found ++ found_points a)) y b))

-- the fact of a node that splits, with its pick and its certificate
abbrev pub AtSplit : {U C P F : Type 0} → (Node U C P F → P → C → Type 0) → Node U C P F → NodeEnd C P → Type 0
AtSplit Holds node (closed end) = ⊤
AtSplit Holds node (parted pick cert) = Holds node pick cert

-- the fact holds of each split of a tree over a view
abbrev pub EachSplit : {U C P F : Type 0} → (Node U C P F → P → C → Type 0) → Steps U C P → View → Tree U C P F → Type 0
EachSplit Holds s v tree = EachNode (λ node. AtSplit Holds node node.end) s None [] v tree
