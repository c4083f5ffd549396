-- The items of a tree, in prefix order, and what may be read off them.
use Rattle.std.specs.Prelude.{ℕ, ◌+◌, max, List, [], ◌∷◌, ◌++◌, map, Option, Some, None, option_to_list}
use Rattle.std.specs.List.{filter_map}
use Rattle.proof_tree.specs.declared.item.Item.{Item}
use Rattle.proof_tree.specs.declared.item.Item.TheVariants.{Node, Cut, Found, Empty, Dual, Point, Pending, Split}
use Rattle.proof_tree.specs.Tree.{Leaf, no_point, dual, one_point, pending, Tree, leaf, split}

-- the item of a leaf
abbrev pub leaf_item : {R A U C P F : Type 0} → Leaf C → Item R A U C P F
leaf_item no_point = Empty
leaf_item (dual cert) = Dual cert
leaf_item one_point = Point
leaf_item (pending cert) = Pending cert

-- the items of a tree: a node, its cuts, its found point, its end, and the items of its left and of its right part
abbrev pub tree_items : {R A U C P F : Type 0} → Tree U C P F → List (Item R A U C P F)
tree_items (leaf cuts found end) = Node ∷ (map Cut cuts ++ (map Found (option_to_list found) ++ (leaf_item end ∷ [])))
tree_items (split cuts found pick cert a b) =
    Node ∷ (map Cut cuts ++ (map Found (option_to_list found) ++ (Split pick cert ∷ (tree_items a ++ tree_items b))))

-- how many nodes stand one below another, at most
abbrev pub depth : {U C P F : Type 0} → Tree U C P F → ℕ
depth (leaf cuts found end) = 1
depth (split cuts found pick cert a b) = 1 + max (depth a) (depth b)

-- the found point that an item is, if it is one
abbrev pub found_of : {R A U C P F : Type 0} → Item R A U C P F → Option F
found_of (Found f) = Some f
found_of item = None

-- the found points among items, in their order
abbrev pub found_in : {R A U C P F : Type 0} → List (Item R A U C P F) → List F
found_in items = filter_map found_of items
