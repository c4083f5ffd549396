-- The items of a tree are the items of no other tree, and no first part of those of another.
use Rattle.std.proofs.Common.{◌≡◌, Bool, true, false, List, [], ◌∷◌, ◌++◌, map, Option, None, Some, option_to_list, refl, sym, ap, ◌∙◌, subst, append_assoc}
use Rattle.std.specs.Bool.{⊤}
use Rattle.std.proofs.lemmas.List.{append-nil}
use Rattle.proof_tree.specs.declared.item.Item.{Item}
use Rattle.proof_tree.specs.declared.item.Item.TheVariants.{Node, Cut, Found, Split}
use Rattle.proof_tree.specs.Items.{leaf_item, tree_items}
use Rattle.proof_tree.specs.Tree.{Leaf, no_point, dual, one_point, pending, Tree, leaf, split}

module _ {R A U C P F : Type 0} where
  -- cuts, found points, and all that may stand behind them in a node
  is_cut : Item R A U C P F → Bool
  is_cut (Cut u) = true
  is_cut _ = false

  is_found : Item R A U C P F → Bool
  is_found (Found f) = true
  is_found _ = false

  NoCutFirst : List (Item R A U C P F) → Type 0
  NoCutFirst [] = ⊤
  NoCutFirst (item ∷ items) = is_cut item ≡ false

  NoFoundFirst : List (Item R A U C P F) → Type 0
  NoFoundFirst [] = ⊤
  NoFoundFirst (item ∷ items) = is_found item ≡ false

  -- an item that is neither
  record IsEnd (item : Item R A U C P F) : Type 0 where
    no_cut : is_cut item ≡ false
    no_found : is_found item ≡ false

  cuts_same : (us vs : List U) (a b : List (Item R A U C P F)) → NoCutFirst a → NoCutFirst b → map Cut us ++ a ≡ map Cut vs ++ b → (us ≡ vs) × (a ≡ b)
  unfolding is_cut NoCutFirst
  cuts_same [] [] a b in_a in_b same = (refl, same)
  cuts_same [] (v ∷ vs) a b in_a in_b same = let wrong : true ≡ false = subst NoCutFirst same in_a in cc
  cuts_same (u ∷ us) [] a b in_a in_b same = let wrong : true ≡ false = subst NoCutFirst (sym same) in_b in cc
  cuts_same (u ∷ us) (v ∷ vs) a b in_a in_b same =
      let first : u ≡ v = cc in
      let rest : map Cut us ++ a ≡ map Cut vs ++ b = cc in
      let others = cuts_same us vs a b in_a in_b rest in
      let tail : us ≡ vs = others.0 in
      (cc, others.1)

  found_same : (f g : Option F) (a b : List (Item R A U C P F)) → NoFoundFirst a → NoFoundFirst b → map Found (option_to_list f) ++ a ≡ map Found (option_to_list g) ++ b → (f ≡ g) × (a ≡ b)
  unfolding is_found NoFoundFirst
  found_same None None a b in_a in_b same = (refl, same)
  found_same None (Some g) a b in_a in_b same = let wrong : true ≡ false = subst NoFoundFirst same in_a in cc
  found_same (Some f) None a b in_a in_b same = let wrong : true ≡ false = subst NoFoundFirst (sym same) in_b in cc
  found_same (Some f) (Some g) a b in_a in_b same = (cc, cc)

  no_cut_first : (f : Option F) (end : Item R A U C P F) (rest : List (Item R A U C P F)) → IsEnd end → NoCutFirst (map Found (option_to_list f) ++ (end ∷ rest))
  unfolding is_cut NoCutFirst
  no_cut_first None end rest is = is.no_cut
  no_cut_first (Some f) end rest is = refl

  -- the parts of a node
  record SameNode (us vs : List U) (f g : Option F) (c d : Item R A U C P F) (a b : List (Item R A U C P F)) : Type 0 where
    cuts : us ≡ vs
    found : f ≡ g
    end : c ≡ d
    rest : a ≡ b

  node_same : (us vs : List U) (f g : Option F) (c d : Item R A U C P F) (a b : List (Item R A U C P F)) → IsEnd c → IsEnd d → map Cut us ++ (map Found (option_to_list f) ++ (c ∷ a)) ≡ map Cut vs ++ (map Found (option_to_list g) ++ (d ∷ b)) → SameNode us vs f g c d a b
  unfolding NoFoundFirst
  node_same us vs f g c d a b is_c is_d same =
      let front = cuts_same us vs (map Found (option_to_list f) ++ (c ∷ a)) (map Found (option_to_list g) ++ (d ∷ b)) (no_cut_first f c a is_c) (no_cut_first g d b is_d) same in
      let back = found_same f g (c ∷ a) (d ∷ b) is_c.no_found is_d.no_found front.1 in
      let ends : c ∷ a ≡ d ∷ b = back.1 in
      record { cuts = front.0; found = back.0; end = cc; rest = cc }

  leaf_ends : (end : Leaf C) → IsEnd (leaf_item end)
  unfolding is_cut is_found
  leaf_ends no_point = record { no_cut = refl; no_found = refl }
  leaf_ends (dual c) = record { no_cut = refl; no_found = refl }
  leaf_ends one_point = record { no_cut = refl; no_found = refl }
  leaf_ends (pending c) = record { no_cut = refl; no_found = refl }

  split_ends : (p : P) (c : C) → IsEnd (Split p c)
  unfolding is_cut is_found
  split_ends p c = record { no_cut = refl; no_found = refl }

  leaf_same : (c d : Leaf C) → leaf_item {R = R} {A = A} {U = U} {P = P} {F = F} c ≡ leaf_item d → c ≡ d
  leaf_same no_point no_point same = refl
  leaf_same (dual c) (dual d) same = cc
  leaf_same one_point one_point same = refl
  leaf_same (pending c) (pending d) same = cc
  leaf_same _ _ same = cc

  leaf_no_split : (c : Leaf C) (p : P) (d : C) → leaf_item {R = R} {A = A} {U = U} {P = P} {F = F} c ≡ Split p d → ⊥
  leaf_no_split no_point p d same = cc
  leaf_no_split (dual c) p d same = cc
  leaf_no_split one_point p d same = cc
  leaf_no_split (pending c) p d same = cc

  regroup : (a b c d : List (Item R A U C P F)) → (a ++ (b ++ c)) ++ d ≡ a ++ (b ++ (c ++ d))
  regroup a b c d = append_assoc a (b ++ c) d ∙ ap (λ (x : List (Item R A U C P F)). a ++ x) (append_assoc b c d)

  -- a tree's items as its node and what follows
  leaf_parts : (us : List U) (f : Option F) (end : Leaf C) (a : List (Item R A U C P F)) → tree_items (leaf us f end) ++ a ≡ Node ∷ (map Cut us ++ (map Found (option_to_list f) ++ (leaf_item end ∷ a)))
  leaf_parts us f end a = ap (λ (x : List (Item R A U C P F)). Node ∷ x) (regroup (map Cut us) (map Found (option_to_list f)) (leaf_item end ∷ []) a)

  split_parts : (us : List U) (f : Option F) (p : P) (c : C) (s t : Tree U C P F) (a : List (Item R A U C P F)) → tree_items (split us f p c s t) ++ a ≡ Node ∷ (map Cut us ++ (map Found (option_to_list f) ++ (Split p c ∷ (tree_items s ++ (tree_items t ++ a)))))
  split_parts us f p c s t a =
      let both = tree_items {R = R} {A = A} s ++ tree_items t in
      ap (λ (x : List (Item R A U C P F)). Node ∷ x)
      (regroup (map Cut us) (map Found (option_to_list f)) (Split p c ∷ both) a
      ∙ ap (λ (x : List (Item R A U C P F)). map Cut us ++ (map Found (option_to_list f) ++ (Split p c ∷ x))) (append_assoc (tree_items s) (tree_items t) a))

  pub tree_same : (s t : Tree U C P F) (a b : List (Item R A U C P F)) → tree_items s ++ a ≡ tree_items t ++ b → (s ≡ t) × (a ≡ b)
  tree_same (leaf us f c) (leaf vs g d) a b same =
      let parts : Node ∷ (map Cut us ++ (map Found (option_to_list f) ++ (leaf_item c ∷ a))) ≡ Node ∷ (map Cut vs ++ (map Found (option_to_list g) ++ (leaf_item d ∷ b))) = sym (leaf_parts us f c a) ∙ same ∙ leaf_parts vs g d b in
      let node = node_same us vs f g (leaf_item c) (leaf_item d) a b (leaf_ends c) (leaf_ends d) cc in
      let cuts : us ≡ vs = node.cuts in
      let found : f ≡ g = node.found in
      let end : c ≡ d = leaf_same c d node.end in
      (cc, node.rest)
  tree_same (leaf us f c) (split vs g p d t1 t2) a b same =
      let parts : Node ∷ (map Cut us ++ (map Found (option_to_list f) ++ (leaf_item c ∷ a))) ≡ Node ∷ (map Cut vs ++ (map Found (option_to_list g) ++ (Split p d ∷ (tree_items t1 ++ (tree_items t2 ++ b))))) = sym (leaf_parts us f c a) ∙ same ∙ split_parts vs g p d t1 t2 b in
      let node = node_same us vs f g (leaf_item c) (Split p d) a (tree_items t1 ++ (tree_items t2 ++ b)) (leaf_ends c) (split_ends p d) cc in
      absurd (leaf_no_split c p d node.end)
  tree_same (split us f p c s1 s2) (leaf vs g d) a b same =
      let parts : Node ∷ (map Cut us ++ (map Found (option_to_list f) ++ (Split p c ∷ (tree_items s1 ++ (tree_items s2 ++ a))))) ≡ Node ∷ (map Cut vs ++ (map Found (option_to_list g) ++ (leaf_item d ∷ b))) = sym (split_parts us f p c s1 s2 a) ∙ same ∙ leaf_parts vs g d b in
      let node = node_same us vs f g (Split p c) (leaf_item d) (tree_items s1 ++ (tree_items s2 ++ a)) b (split_ends p c) (leaf_ends d) cc in
      absurd (leaf_no_split d p c (sym node.end))
  tree_same (split us f p c s1 s2) (split vs g q d t1 t2) a b same =
      let parts : Node ∷ (map Cut us ++ (map Found (option_to_list f) ++ (Split p c ∷ (tree_items s1 ++ (tree_items s2 ++ a))))) ≡ Node ∷ (map Cut vs ++ (map Found (option_to_list g) ++ (Split q d ∷ (tree_items t1 ++ (tree_items t2 ++ b))))) = sym (split_parts us f p c s1 s2 a) ∙ same ∙ split_parts vs g q d t1 t2 b in
      let node = node_same us vs f g (Split p c) (Split q d) (tree_items s1 ++ (tree_items s2 ++ a)) (tree_items t1 ++ (tree_items t2 ++ b)) (split_ends p c) (split_ends q d) cc in
      let first = tree_same s1 t1 (tree_items s2 ++ a) (tree_items t2 ++ b) node.rest in
      let second = tree_same s2 t2 a b first.1 in
      let cuts : us ≡ vs = node.cuts in
      let found : f ≡ g = node.found in
      let ends : ◌≡◌ {A = Item R A U C P F} (Split p c) (Split q d) = node.end in
      let left : s1 ≡ t1 = first.0 in
      let right : s2 ≡ t2 = second.0 in
      (cc, second.1)

-- items are those of one tree at most
pub items-one_tree : {R A U C P F : Type 0} (s t : Tree U C P F) → tree_items {R = R} {A = A} s ≡ tree_items t → s ≡ t
items-one_tree s t same = (tree_same s t [] [] (append-nil (tree_items s) ∙ same ∙ sym (append-nil (tree_items t)))).0
