-- Proofs as trees over plain lists, and their caps.
use Rattle.std.specs.Prelude.{cond, List, [], ◌∷◌, Option, Some, None, option_and_then}
use Rattle.proof_tree.specs.declared.capped.Capped.{Capped}
use Rattle.proof_tree.specs.declared.capped.Capped.TheVariants.{NoPoint, Bad}
use Rattle.proof_tree.specs.declared.proof.Proof.{Proof}
use Rattle.proof_tree.specs.declared.proof.End.{End, Empty, Dual, Point, Pending, Split'}
use Rattle.proof_tree.specs.Cap.{greater, floor_cap}
use Rattle.proof_tree.specs.Relaxation.{Steps}
use Rattle.proof_tree.specs.Views.{View}

-- an end that splits nothing
pub data Leaf (C : Type 0) : Type 0 where
  no_point : Leaf C
  dual : C → Leaf C
  one_point : Leaf C
  pending : C → Leaf C

-- a node with its cuts and its found point: it ends in a leaf, or has a pick, a certificate and two parts
pub data Tree (U C P F : Type 0) : Type 0 where
  leaf : List U → Option F → Leaf C → Tree U C P F
  split : List U → Option F → P → C → Tree U C P F → Tree U C P F → Tree U C P F

-- a node with these cuts and this found point, and this end
abbrev pub tree_at : {U C P F : Type 0} → List U → Option F → End U C P F → Tree U C P F
tree_at cuts found Empty = leaf cuts found no_point
tree_at cuts found (Dual cert) = leaf cuts found (dual cert)
tree_at cuts found Point = leaf cuts found one_point
tree_at cuts found (Pending cert) = leaf cuts found (pending cert)
tree_at cuts found (Split' pick cert a cuts1 found1 end1 b cuts2 found2 end2) =
    split cuts found pick cert (tree_at cuts1 found1 end1) (tree_at cuts2 found2 end2)

-- the tree that a proof is
abbrev pub tree_of : {U C P F : Type 0} → Proof U C P F → Tree U C P F
tree_of proof = tree_at proof.cuts proof.found proof.end

-- the view after the cuts, made one after another; none where one of them names nothing
abbrev pub after_cuts : {U C P : Type 0} → Steps U C P → View → List U → Option View
after_cuts s v [] = Some v
after_cuts s v (u ∷ us) = option_and_then (λ w. after_cuts s w us) (s.cut v u)

-- the cap over a view that has to be there
abbrev pub cap_if : Option View → (View → Capped) → Capped
cap_if None cap = Bad
cap_if (Some v) cap = cap v

-- the cap of a leaf over a view
abbrev pub leaf_cap : {U C P : Type 0} → Steps U C P → View → Leaf C → Capped
leaf_cap s v no_point = cond (s.empty v) NoPoint Bad
leaf_cap s v (dual cert) = s.cap v cert
leaf_cap s v one_point = s.settle v
leaf_cap s v (pending cert) = s.cap v cert

-- the cap of a split over a view: the greatest of its floor's and of its two parts' caps, the parts being those of what it has not forgotten
abbrev pub split_cap : {U C P : Type 0} → Steps U C P → View → P → C → (View → Capped) → (View → Capped) → Capped
split_cap s w pick cert left_cap right_cap =
    greater (greater (floor_cap (s.floor w pick cert)) (cap_if (s.left (s.trim w pick cert) pick) left_cap))
    (cap_if (s.right (s.trim w pick cert) pick) right_cap)

-- the cap of a tree over a view: that of its leaf or of its split after its cuts
abbrev pub tree_cap : {U C P F : Type 0} → Steps U C P → View → Tree U C P F → Capped
tree_cap s v (leaf cuts found end) = cap_if (after_cuts s v cuts) (λ w. leaf_cap s w end)
tree_cap s v (split cuts found pick cert a b) =
    cap_if (after_cuts s v cuts) (λ w. split_cap s w pick cert (λ x. tree_cap s x a) (λ x. tree_cap s x b))
