-- A walk that comes to an end has taken the items of a tree, and ends with the tree's cap.
use Rattle.std.proofs.Common.{◌≡◌, ℕ, suc, zero, ◌≤◌, List, [], ◌∷◌, ◌++◌, map, length, ℤ, Option, Some, None, option_to_list, refl, ap, sym, ◌∙◌, subst, arith, append_assoc, length-append}
use Rattle.std.proofs.lemmas.List.{append-nil}
use Rattle.proof_tree.specs.declared.capped.Capped.{Capped}
use Rattle.proof_tree.specs.declared.capped.Capped.TheVariants.{AtMost, NoPoint, Bad}
use Rattle.proof_tree.specs.declared.item.Item.{Item}
use Rattle.proof_tree.specs.declared.item.Item.TheVariants.{Node, Cut, Found, Empty, Dual, Point, Pending, Split}
use Rattle.proof_tree.specs.declared.walk.Expected.TheVariants.{Node as ExpectNode, Inside, End}
use Rattle.proof_tree.specs.Items.{leaf_item, tree_items}
use Rattle.proof_tree.specs.Cap.{Bounds, greater, floor_cap}
use Rattle.proof_tree.specs.Relaxation.{Steps, IsSound}
use Rattle.proof_tree.specs.Tree.{Leaf, no_point, dual, one_point, pending, Tree, leaf, split, tree_cap}
use Rattle.proof_tree.specs.Views.{View, Point as ViewPoint}
use Rattle.proof_tree.specs.Walk.{Opened, Stage, Outcome, going, ended, undefined, misplaced, going_to, part_ended, walked, start}
use Rattle.proof_tree.proofs.Sound.{tree_cap-bounds}
use Rattle.proof_tree.proofs.WalkLaw.{stage_at, split_over, walked-append, walked-undefined, walked-misplaced, walked-tree}

-- how a node ends: with a leaf, or with a split and its parts
data Tail (U C P F : Type 0) : Type 0 where
  closing : Leaf C → Tail U C P F
  parting : P → C → Tree U C P F → Tree U C P F → Tail U C P F

-- the node with these cuts and this found point that ends so
abbrev node_of : {U C P F : Type 0} → List U → Option F → Tail U C P F → Tree U C P F
node_of cuts found (closing end) = leaf cuts found end
node_of cuts found (parting pick cert a b) = split cuts found pick cert a b

-- the items of an ending
abbrev tail_items : {R A U C P F : Type 0} → Tail U C P F → List (Item R A U C P F)
tail_items (closing end) = leaf_item end ∷ []
tail_items (parting pick cert a b) = Split pick cert ∷ (tree_items a ++ tree_items b)

module _ (R A F : Type 0) {U C P : Type 0} (s : Steps U C P) where
  -- items that begin with those of a tree
  record BeginsTree (items : List (Item R A U C P F)) : Type 0 where
    tree : Tree U C P F
    later : List (Item R A U C P F)
    is : items ≡ tree_items tree ++ later

  -- items that begin with those of a node's ending
  record BeginsTail (items : List (Item R A U C P F)) : Type 0 where
    tail : Tail U C P F
    later : List (Item R A U C P F)
    is : items ≡ tail_items tail ++ later

  -- items that begin with those of a node after its first item
  record BeginsNode (items : List (Item R A U C P F)) : Type 0 where
    cuts : List U
    found : Option F
    tail : Tail U C P F
    later : List (Item R A U C P F)
    is : items ≡ (map Cut cuts ++ (map Found (option_to_list found) ++ tail_items tail)) ++ later

  not_misplaced : (proof_cap : Capped) (outcome : Outcome P) → outcome ≡ ended proof_cap → outcome ≡ misplaced → ⊥
  not_misplaced proof_cap outcome a b = cc

  not_undefined : (proof_cap : Capped) (outcome : Outcome P) → outcome ≡ ended proof_cap → outcome ≡ undefined → ⊥
  not_undefined proof_cap outcome a b = cc

  -- items that may not come, and those that lead to no cap, come to no end
  wrong : {X : Type 0} (items : List (Item R A U C P F)) (proof_cap : Capped) → walked s misplaced items ≡ ended proof_cap → X
  wrong items proof_cap led = absurd (not_misplaced proof_cap (walked s misplaced items) led (walked-misplaced R A F s items))

  capless : {X : Type 0} (items : List (Item R A U C P F)) (proof_cap : Capped) → walked s undefined items ≡ ended proof_cap → X
  capless items proof_cap led = absurd (not_undefined proof_cap (walked s undefined items) led (walked-undefined R A F s items))

  -- a walk that goes on has not come to an end
  not_going : (stage : Stage P) (proof_cap : Capped) → going stage ≡ ended proof_cap → ⊥
  not_going stage proof_cap led = cc

  -- a node that begins with its ending
  at_tail : {items : List (Item R A U C P F)} → BeginsTail items → BeginsNode items
  at_tail ending = record { cuts = []; found = None; tail = ending.tail; later = ending.later; is = ending.is }

  -- the tree of a node
  tree-node : (cuts : List U) (found : Option F) (tail : Tail U C P F) → tree_items {R = R} {A = A} (node_of cuts found tail) ≡ Node ∷ (map Cut cuts ++ (map Found (option_to_list found) ++ tail_items tail))
  tree-node cuts found (closing end) = refl
  tree-node cuts found (parting pick cert a b) = refl

  -- what is to be shown of shorter lists
  abbrev Shorter : ℕ → Capped → Type 0
  Shorter fuel proof_cap = (splits : List (Opened P)) (v : View) (items : List (Item R A U C P F)) → length items ≤ fuel → walked s (stage_at ExpectNode splits v) items ≡ ended proof_cap → BeginsTree items

  -- after a cut
  after_cut : (splits : List (Opened P)) (items : List (Item R A U C P F)) (proof_cap : Capped) (u : U) (next : Option View) → ((w : View) → walked s (stage_at Inside splits w) items ≡ ended proof_cap → BeginsNode items) → walked s (going_to Inside splits next) items ≡ ended proof_cap → BeginsNode (Cut u ∷ items)
  after_cut splits items proof_cap u None begins led = capless items proof_cap led
  after_cut splits items proof_cap u (Some w) begins led =
      let node = begins w led in
      record { cuts = u ∷ node.cuts; found = node.found; tail = node.tail; later = node.later; is = ap (λ xs. Cut u ∷ xs) node.is }

  -- the right part of a split
  last_part : (fuel : ℕ) (splits : List (Opened P)) (v : View) (items : List (Item R A U C P F)) (proof_cap : Capped) (k : P) (c : C) (floor : Option ℤ) (first : BeginsTree items) (so_far : Capped) (next : Option View) → Shorter fuel proof_cap → length first.later ≤ fuel → walked s (going_to ExpectNode (split_over v k floor (Some so_far) ∷ splits) next) first.later ≡ ended proof_cap → BeginsTail (Split k c ∷ items)
  last_part fuel splits v items proof_cap k c floor first so_far None begins less led = capless first.later proof_cap led
  last_part fuel splits v items proof_cap k c floor first so_far (Some w) begins less led =
      let second = begins (split_over v k floor (Some so_far) ∷ splits) w first.later less led in
      let both : items ≡ (tree_items first.tree ++ tree_items second.tree) ++ second.later = first.is ∙ ap (λ xs. tree_items first.tree ++ xs) second.is ∙ sym (append_assoc (tree_items first.tree) (tree_items second.tree) second.later) in
      record { tail = parting k c first.tree second.tree; later = second.later; is = ap (λ xs. Split k c ∷ xs) both }

  right_part : (fuel : ℕ) (splits : List (Opened P)) (v : View) (items : List (Item R A U C P F)) (proof_cap : Capped) (k : P) (c : C) (floor : Option ℤ) (first : BeginsTree items) (left_cap : Capped) → Shorter fuel proof_cap → length first.later ≤ fuel → walked s (part_ended s (split_over v k floor None ∷ splits) left_cap) first.later ≡ ended proof_cap → BeginsTail (Split k c ∷ items)
  right_part fuel splits v items proof_cap k c floor first Bad begins less led = capless first.later proof_cap led
  right_part fuel splits v items proof_cap k c floor first NoPoint begins less led = last_part fuel splits v items proof_cap k c floor first (greater (floor_cap floor) NoPoint) (s.right v k) begins less led
  right_part fuel splits v items proof_cap k c floor first (AtMost n) begins less led = last_part fuel splits v items proof_cap k c floor first (greater (floor_cap floor) (AtMost n)) (s.right v k) begins less led

  -- the left part of a split
  left_part : (fuel : ℕ) (splits : List (Opened P)) (v : View) (items : List (Item R A U C P F)) (proof_cap : Capped) (k : P) (c : C) (floor : Option ℤ) (next : Option View) → Shorter fuel proof_cap → length items ≤ fuel → walked s (going_to ExpectNode (split_over v k floor None ∷ splits) next) items ≡ ended proof_cap → BeginsTail (Split k c ∷ items)
  left_part fuel splits v items proof_cap k c floor None begins short led = capless items proof_cap led
  left_part fuel splits v items proof_cap k c floor (Some w) begins short led =
      let all : List (Opened P) = split_over v k floor None ∷ splits in
      let first = begins all w items short led in
      let long = ap length first.is ∙ length-append (tree_items first.tree) first.later in
      let less : length first.later ≤ fuel = omega (arith, short, long) in
      let rest : walked s (part_ended s all (tree_cap s w first.tree)) first.later ≡ ended proof_cap =
      ap (λ o. walked s o first.later) (sym (walked-tree R A F s first.tree all w))
      ∙ sym (walked-append R A F s (stage_at ExpectNode all w) (tree_items first.tree) first.later)
      ∙ ap (walked s (stage_at ExpectNode all w)) (sym first.is) ∙ led in
      right_part fuel splits v items proof_cap k c floor first (tree_cap s w first.tree) begins less rest

  mutual
    -- items that come to an end where a node has to come begin with those of a tree
    begins-tree : (fuel : ℕ) (splits : List (Opened P)) (v : View) (items : List (Item R A U C P F)) (proof_cap : Capped) → length items ≤ fuel → walked s (stage_at ExpectNode splits v) items ≡ ended proof_cap → BeginsTree items
    begins-tree fuel splits v [] proof_cap short led = absurd (not_going (record { expected = ExpectNode; splits = splits; view = v }) proof_cap led)
    begins-tree zero splits v (Node ∷ items) proof_cap short led = absurd (omega arith)
    begins-tree (suc fuel) splits v (Node ∷ items) proof_cap short led =
        let node = begins-node fuel splits v items proof_cap (omega arith) led in
        record { tree = node_of node.cuts node.found node.tail; later = node.later; is = ap (λ xs. Node ∷ xs) node.is ∙ ap (λ xs. xs ++ node.later) (sym (tree-node node.cuts node.found node.tail)) }
    begins-tree fuel splits v (Cut u ∷ items) proof_cap short led = wrong items proof_cap led
    begins-tree fuel splits v (Found f ∷ items) proof_cap short led = wrong items proof_cap led
    begins-tree fuel splits v (Empty ∷ items) proof_cap short led = wrong items proof_cap led
    begins-tree fuel splits v (Dual c ∷ items) proof_cap short led = wrong items proof_cap led
    begins-tree fuel splits v (Point ∷ items) proof_cap short led = wrong items proof_cap led
    begins-tree fuel splits v (Pending c ∷ items) proof_cap short led = wrong items proof_cap led
    begins-tree fuel splits v (Split k c ∷ items) proof_cap short led = wrong items proof_cap led

    -- items that come to an end inside a node begin with the rest of a node
    begins-node : (fuel : ℕ) (splits : List (Opened P)) (v : View) (items : List (Item R A U C P F)) (proof_cap : Capped) → length items ≤ fuel → walked s (stage_at Inside splits v) items ≡ ended proof_cap → BeginsNode items
    begins-node fuel splits v [] proof_cap short led = absurd (not_going (record { expected = Inside; splits = splits; view = v }) proof_cap led)
    begins-node fuel splits v (Node ∷ items) proof_cap short led = wrong items proof_cap led
    begins-node zero splits v (Cut u ∷ items) proof_cap short led = absurd (omega arith)
    begins-node (suc fuel) splits v (Cut u ∷ items) proof_cap short led = after_cut splits items proof_cap u (s.cut v u) (λ w more. begins-node fuel splits w items proof_cap (omega arith) more) led
    begins-node zero splits v (Found f ∷ items) proof_cap short led = absurd (omega arith)
    begins-node (suc fuel) splits v (Found f ∷ items) proof_cap short led =
        let ending = begins-tail fuel splits v items proof_cap (omega arith) led in
        record { cuts = []; found = Some f; tail = ending.tail; later = ending.later; is = ap (λ xs. Found f ∷ xs) ending.is }
    begins-node fuel splits v (Empty ∷ items) proof_cap short led = record { cuts = []; found = None; tail = closing no_point; later = items; is = refl }
    begins-node fuel splits v (Dual c ∷ items) proof_cap short led = record { cuts = []; found = None; tail = closing (dual c); later = items; is = refl }
    begins-node fuel splits v (Point ∷ items) proof_cap short led = record { cuts = []; found = None; tail = closing one_point; later = items; is = refl }
    begins-node fuel splits v (Pending c ∷ items) proof_cap short led = record { cuts = []; found = None; tail = closing (pending c); later = items; is = refl }
    begins-node zero splits v (Split k c ∷ items) proof_cap short led = absurd (omega arith)
    begins-node (suc fuel) splits v (Split k c ∷ items) proof_cap short led = at_tail (left_part fuel splits (s.trim v k c) items proof_cap k c (s.floor v k c) (s.left (s.trim v k c) k) (λ inner w others less more. begins-tree fuel inner w others proof_cap less more) (omega arith) led)

    -- items that come to an end where an end has to come begin with one
    begins-tail : (fuel : ℕ) (splits : List (Opened P)) (v : View) (items : List (Item R A U C P F)) (proof_cap : Capped) → length items ≤ fuel → walked s (stage_at End splits v) items ≡ ended proof_cap → BeginsTail items
    begins-tail fuel splits v [] proof_cap short led = absurd (not_going (record { expected = End; splits = splits; view = v }) proof_cap led)
    begins-tail fuel splits v (Node ∷ items) proof_cap short led = wrong items proof_cap led
    begins-tail fuel splits v (Cut u ∷ items) proof_cap short led = wrong items proof_cap led
    begins-tail fuel splits v (Found f ∷ items) proof_cap short led = wrong items proof_cap led
    begins-tail fuel splits v (Empty ∷ items) proof_cap short led = record { tail = closing no_point; later = items; is = refl }
    begins-tail fuel splits v (Dual c ∷ items) proof_cap short led = record { tail = closing (dual c); later = items; is = refl }
    begins-tail fuel splits v (Point ∷ items) proof_cap short led = record { tail = closing one_point; later = items; is = refl }
    begins-tail fuel splits v (Pending c ∷ items) proof_cap short led = record { tail = closing (pending c); later = items; is = refl }
    begins-tail zero splits v (Split k c ∷ items) proof_cap short led = absurd (omega arith)
    begins-tail (suc fuel) splits v (Split k c ∷ items) proof_cap short led = left_part fuel splits (s.trim v k c) items proof_cap k c (s.floor v k c) (s.left (s.trim v k c) k) (λ inner w others less more. begins-tree fuel inner w others proof_cap less more) (omega arith) led

  -- the cap of an outcome that has ended
  same_cap : (outcome : Outcome P) (a b : Capped) → outcome ≡ ended a → outcome ≡ ended b → a ≡ b
  same_cap outcome a b first second = cc

  -- after a tree that stands under no split nothing comes
  nothing_later : (whole : Capped) (later : List (Item R A U C P F)) (proof_cap : Capped) → walked s (part_ended s [] whole) later ≡ ended proof_cap → (later ≡ []) × (whole ≡ proof_cap)
  nothing_later Bad later proof_cap led = capless later proof_cap led
  nothing_later NoPoint [] proof_cap led = (refl, same_cap (ended NoPoint) NoPoint proof_cap refl led)
  nothing_later NoPoint (x ∷ xs) proof_cap led = wrong xs proof_cap led
  nothing_later (AtMost n) [] proof_cap led = (refl, same_cap (ended (AtMost n)) (AtMost n) proof_cap refl led)
  nothing_later (AtMost n) (x ∷ xs) proof_cap led = wrong xs proof_cap led

  -- a walk that comes to an end has taken the items of a tree, and ends with its cap
  pub walked-is_tree : (v : View) (items : List (Item R A U C P F)) (proof_cap : Capped) → walked s (start v) items ≡ ended proof_cap → (tree : Tree U C P F) × (items ≡ tree_items tree) × (tree_cap s v tree ≡ proof_cap)
  walked-is_tree v items proof_cap led =
      let begun = begins-tree (length items) [] v items proof_cap (omega arith) led in
      let rest : walked s (part_ended s [] (tree_cap s v begun.tree)) begun.later ≡ ended proof_cap =
      ap (λ o. walked s o begun.later) (sym (walked-tree R A F s begun.tree [] v))
      ∙ sym (walked-append R A F s (start v) (tree_items begun.tree) begun.later)
      ∙ ap (walked s (start v)) (sym begun.is) ∙ led in
      let over = nothing_later (tree_cap s v begun.tree) begun.later proof_cap rest in
      (begun.tree, begun.is ∙ ap (λ xs. tree_items begun.tree ++ xs) over.0 ∙ append-nil (tree_items begun.tree), over.1)

-- so what it ends with bounds the worth of every lawful point of its first view
pub walked-bounds : (R A F : Type 0) {U C P : Type 0} (s : Steps U C P) (fits : View → Type 0) (is_point : View → ViewPoint → Type 0) (is_lawful : ViewPoint → Type 0) (worth : ViewPoint → ℤ) → IsSound s fits is_point is_lawful worth
    → (v : View) (items : List (Item R A U C P F)) (proof_cap : Capped) → fits v → walked s (start v) items ≡ ended proof_cap → Bounds (is_point v) is_lawful worth proof_cap
walked-bounds R A F s fits is_point is_lawful worth sound v items proof_cap fit led =
    let whole = walked-is_tree R A F s v items proof_cap led in
    subst (Bounds (is_point v) is_lawful worth) whole.2 (tree_cap-bounds s fits is_point is_lawful worth sound whole.0 v fit)
