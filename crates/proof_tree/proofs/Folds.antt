-- What a tree holds in all, read off its items.
use Rattle.std.proofs.Common.{◌≡◌, ℕ, ◌+◌, List, [], ◌∷◌, ◌++◌, map, Option, Some, None, option_to_list, refl, ap, ◌∙◌, arith}
use Rattle.std.specs.List.{sum_by}
use Rattle.std.proofs.lemmas.List.Elements.{filter_map-append}
use Rattle.std.proofs.lemmas.List.{append-nil}
use Rattle.std.proofs.lemmas.List.Sums.{sum_by-append, sum_by-cons}
use Rattle.proof_tree.specs.declared.item.Item.{Item}
use Rattle.proof_tree.specs.declared.item.Item.TheVariants.{Cut, Found, Empty, Dual, Point, Pending, Split}
use Rattle.proof_tree.specs.Items.{leaf_item, tree_items, found_of, found_in}
use Rattle.proof_tree.specs.Nodes.{counted, found_points}
use Rattle.proof_tree.specs.Tree.{Leaf, no_point, dual, one_point, pending, Tree, leaf, split}

-- the boxes that an item counts: one where it ends a node and does not leave it open
abbrev pub counted_of : {R A U C P F : Type 0} → Item R A U C P F → ℕ
counted_of Empty = 1
counted_of (Dual cert) = 1
counted_of Point = 1
counted_of (Split pick cert) = 1
counted_of item = 0

module _ (R A U C P F : Type 0) where
  -- the items of such a tree
  abbrev Items : Type 0
  Items = List (Item R A U C P F)

  found_in-cuts : (us : List U) (items : Items) → found_in (map Cut us ++ items) ≡ found_in items
  found_in-cuts [] items = refl
  found_in-cuts (u ∷ us) items = found_in-cuts us items

  found_in-found : (found : Option F) (items : Items) → found_in (map Found (option_to_list found) ++ items) ≡ option_to_list found ++ found_in items
  found_in-found None items = refl
  found_in-found (Some f) items = refl

  found_in-leaf : (end : Leaf C) → found_in {R = R} {A = A} {U = U} {P = P} {F = F} (leaf_item end ∷ []) ≡ []
  found_in-leaf no_point = refl
  found_in-leaf (dual cert) = refl
  found_in-leaf one_point = refl
  found_in-leaf (pending cert) = refl

  count-none : (item : Item R A U C P F) (items : Items) → counted_of item ≡ 0 → sum_by counted_of (item ∷ items) ≡ sum_by counted_of items
  count-none item items none = let first = sum_by-cons counted_of item items in omega (arith, first, none)

  count-one : (item : Item R A U C P F) (items : Items) (n : ℕ) → counted_of item ≡ 1 → sum_by counted_of items ≡ n → sum_by counted_of (item ∷ items) ≡ 1 + n
  count-one item items n one rest = let first = sum_by-cons counted_of item items in omega (arith, first, one, rest)

  count-cuts : (us : List U) (items : Items) → sum_by counted_of (map Cut us ++ items) ≡ sum_by counted_of items
  count-cuts [] items = refl
  count-cuts (u ∷ us) items = count-none (Cut u) (map Cut us ++ items) refl ∙ count-cuts us items

  count-found : (found : Option F) (items : Items) → sum_by counted_of (map Found (option_to_list found) ++ items) ≡ sum_by counted_of items
  count-found None items = refl
  count-found (Some f) items = count-none (Found f) items refl

  count-nil : sum_by (counted_of {R = R} {A = A} {U = U} {C = C} {P = P} {F = F}) [] ≡ 0
  count-nil = refl

  count-leaf : (end : Leaf C) (cuts : List U) (found : Option F) → sum_by (counted_of {R = R} {A = A} {U = U} {P = P} {F = F}) (leaf_item end ∷ []) ≡ counted {P = P} (leaf cuts found end)
  count-leaf no_point cuts found = count-one Empty [] 0 refl count-nil
  count-leaf (dual cert) cuts found = count-one (Dual cert) [] 0 refl count-nil
  count-leaf one_point cuts found = count-one Point [] 0 refl count-nil
  count-leaf (pending cert) cuts found = count-none (Pending cert) [] refl ∙ count-nil

  count-both : (pick : P) (cert : C) (xs ys : Items) (m n : ℕ) → sum_by counted_of xs ≡ m → sum_by counted_of ys ≡ n → sum_by counted_of (Split pick cert ∷ (xs ++ ys)) ≡ 1 + m + n
  count-both pick cert xs ys m n first second =
      let both = sum_by-append counted_of xs ys in
      let all = count-one (Split pick cert) (xs ++ ys) _ refl both in
      omega (arith, all, first, second)

module _ (R A : Type 0) {U C P F : Type 0} where
  -- the found points of a tree are those among its items
  pub found_in-tree : (tree : Tree U C P F) → found_in (tree_items {R = R} {A = A} tree) ≡ found_points tree
  found_in-tree (leaf cuts found end) =
      found_in-cuts R A U C P F cuts _ ∙ found_in-found R A U C P F found _ ∙ ap (λ fs. option_to_list found ++ fs) (found_in-leaf R A U C P F end) ∙ append-nil (option_to_list found)
  found_in-tree (split cuts found pick cert a b) =
      found_in-cuts R A U C P F cuts _ ∙ found_in-found R A U C P F found _
      ∙ ap (λ fs. option_to_list found ++ fs)
      (filter_map-append found_of (tree_items a) (tree_items b)
      ∙ ap (λ fs. fs ++ found_in (tree_items {R = R} {A = A} b)) (found_in-tree a)
      ∙ ap (λ fs. found_points a ++ fs) (found_in-tree b))

  -- the boxes that a tree counts are those that its items end
  pub counted-tree : (tree : Tree U C P F) → sum_by counted_of (tree_items {R = R} {A = A} tree) ≡ counted tree
  counted-tree (leaf cuts found end) = count-cuts R A U C P F cuts _ ∙ count-found R A U C P F found _ ∙ count-leaf R A U C P F end cuts found
  counted-tree (split cuts found pick cert a b) =
      count-cuts R A U C P F cuts _ ∙ count-found R A U C P F found _ ∙ count-both R A U C P F pick cert (tree_items a) (tree_items b) (counted a) (counted b) (counted-tree a) (counted-tree b)
