-- Lemmas on what a builder of a proof holds.
use Rattle.std.proofs.Common.{◌≡◌, true, false, is_some, List, [], ◌∷◌, ◌++◌, map, Option, Some, None, option_map, option_to_list, IsTrue, refl, ap, sym, ◌∙◌, subst, append_assoc}
use Rattle.std.proofs.lemmas.List.{append-nil, map-append}
use Rattle.std.specs.Option.{IsSomeAnd}
use Rattle.proof_tree.specs.declared.builder.BegunNode.{BegunNode}
use Rattle.proof_tree.specs.declared.builder.Built.{Built}
use Rattle.proof_tree.specs.declared.builder.Built.TheVariants.{More, Whole}
use Rattle.proof_tree.specs.declared.builder.SplitNode.{SplitNode}
use Rattle.proof_tree.specs.declared.builder.TreeBuilder.{TreeBuilder}
use Rattle.proof_tree.specs.declared.capped.Capped.TheVariants.{NoPoint}
use Rattle.proof_tree.specs.declared.item.Item.{Item}
use Rattle.proof_tree.specs.declared.item.Item.TheVariants.{Node, Cut, Found, Empty, Dual, Point, Pending, Split}
use Rattle.proof_tree.specs.declared.proof.Proof.{Proof}
use Rattle.proof_tree.specs.declared.tree_taker.TreeTaker.{TreeTaker}
use Rattle.proof_tree.specs.declared.walk.Expected.{Expected}
use Rattle.proof_tree.specs.declared.walk.Expected.TheVariants.{Node as ExpectNode, Inside, End}
use Rattle.proof_tree.specs.Built.{HasBuilt, IsBuilt, HoldsBuilt, HoldsItems, Holding, items_if, proof_items, begun_items, split_items, splits_items}
use Rattle.proof_tree.specs.Form.{any_steps, form_of, MayComeAfter, AreWhole}
use Rattle.proof_tree.specs.Items.{leaf_item, tree_items}
use Rattle.proof_tree.specs.Tree.{Leaf, Tree, leaf, split as two_parts, tree_of}
use Rattle.proof_tree.specs.Walk.{Opened, Stage, Outcome, going, ended, misplaced, may_come, part_ended, walked, start}
use Rattle.proof_tree.proofs.Forms.{any_steps-cap, tree_whole, going-may, whole-not_going}
use Rattle.proof_tree.proofs.OneTree.{items-one_tree}
use Rattle.proof_tree.proofs.WalkLaw.{stage_at, split_over, walked-append, walked-tree}

-- which items may come in a node that has begun
abbrev pub inside : {F : Type 0} → Option F → Expected
inside None = Inside
inside (Some found) = End

-- which items may come next
abbrev pub next_of : {U F : Type 0} → Option (BegunNode U F) → Expected
next_of None = ExpectNode
next_of (Some node) = inside node.found

-- after the found point only an end may come
pub inside-some : {F : Type 0} (found : Option F) → is_some found ≡ true → inside found ≡ End
inside-some None there = cc
inside-some (Some f) there = refl

pub inside-none : {F : Type 0} (found : Option F) → is_some found ≡ false → inside found ≡ Inside
inside-none None there = refl
inside-none (Some f) there = cc

-- an open split as the form of its items has it
abbrev pub held_split : {U C P F : Type 0} → SplitNode U C P F → Opened P
held_split split = record { view = []; pick = split.pick; floor = None; left = option_map (λ proof. NoPoint) split.left }

-- where the items of a builder stand
abbrev pub held_stage : {U C P F : Type 0} → List (SplitNode U C P F) → Option (BegunNode U F) → Stage P
held_stage splits begun = record { expected = next_of begun; splits = map held_split splits; view = [] }

module _ (R A U C P F : Type 0) where
  -- what items lead to under any steps
  abbrev led : Outcome P → List (Item R A U C P F) → Outcome P
  led outcome items = walked any_steps outcome items

  led-cuts : (outer : List (Opened P)) (cuts : List U) → led (stage_at Inside outer []) (map Cut cuts) ≡ stage_at Inside outer []
  led-cuts outer [] = refl
  led-cuts outer (u ∷ us) = led-cuts outer us

  led-begun : (outer : List (Opened P)) (node : BegunNode U F) → led (stage_at ExpectNode outer []) (begun_items node) ≡ stage_at (inside node.found) outer []
  led-begun outer node =
      walked-append R A F any_steps (stage_at Inside outer []) (map Cut node.cuts) (map Found (option_to_list node.found))
      ∙ (ap (λ o. led o (map Found (option_to_list node.found))) (led-cuts outer node.cuts) ∙ at node.found)
    where
      at : (found : Option F) → led (stage_at Inside outer []) (map Found (option_to_list found)) ≡ stage_at (inside found) outer []
      at None = refl
      at (Some f) = refl

  led-left : (outer : List (Opened P)) (pick : P) (left : Option (Proof U C P F)) → led (stage_at ExpectNode (split_over [] pick None None ∷ outer) []) (items_if proof_items left) ≡ stage_at ExpectNode (split_over [] pick None (option_map (λ proof. NoPoint) left) ∷ outer) []
  led-left outer pick None = refl
  led-left outer pick (Some proof) =
      walked-tree R A F any_steps (tree_of proof) (split_over [] pick None None ∷ outer) []
      ∙ ap (part_ended (any_steps {U = U} {C = C}) (split_over [] pick None None ∷ outer)) (any_steps-cap U C P [] (tree_of proof))

  led-split : (outer : List (Opened P)) (split : SplitNode U C P F) → led (stage_at ExpectNode outer []) (split_items split) ≡ stage_at ExpectNode (held_split split ∷ outer) []
  led-split outer split =
      walked-append R A F any_steps (stage_at ExpectNode outer []) (begun_items split.node) (Split split.pick split.cert ∷ items_if proof_items split.left)
      ∙ (ap (λ o. led o (Split split.pick split.cert ∷ items_if proof_items split.left)) (led-begun outer split.node) ∙ at split.node.found)
    where
      at : (found : Option F) → led (stage_at (inside found) outer []) (Split split.pick split.cert ∷ items_if proof_items split.left) ≡ stage_at ExpectNode (held_split split ∷ outer) []
      at None = led-left outer split.pick split.left
      at (Some f) = led-left outer split.pick split.left

  led-splits : (splits : List (SplitNode U C P F)) → form_of {R = R} {A = A} (splits_items splits) ≡ going (held_stage splits None)
  led-splits [] = refl
  led-splits (split ∷ splits) =
      walked-append R A F any_steps (start []) (splits_items splits) (split_items split)
      ∙ (ap (λ o. led o (split_items split)) (led-splits splits) ∙ led-split (map held_split splits) split)

  led-held : (splits : List (SplitNode U C P F)) (begun : Option (BegunNode U F)) → form_of {R = R} {A = A} (splits_items splits ++ items_if begun_items begun) ≡ going (held_stage splits begun)
  led-held splits begun =
      walked-append R A F any_steps (start []) (splits_items splits) (items_if begun_items begun)
      ∙ (ap (λ o. led o (items_if begun_items begun)) (led-splits splits) ∙ at begun)
    where
      at : (node : Option (BegunNode U F)) → led (stage_at ExpectNode (map held_split splits) []) (items_if begun_items node) ≡ going (held_stage splits node)
      at None = refl
      at (Some node) = led-begun (map held_split splits) node

module _ (R A : Type 0) {U C P F : Type 0} where
  -- the items that a builder holds stand where it does: the same items may come next, and the same left parts of the open splits have ended
  pub built-form : (items : List (Item R A U C P F)) (builder : TreeBuilder R A U C P F) → HasBuilt items builder → form_of items ≡ going (held_stage builder.splits builder.begun)
  built-form items builder built = ap form_of built.same ∙ led-held _ _ _ _ _ _ builder.splits builder.begun

  -- an item that may come after what a builder holds is one that may come next
  pub held-may : (splits : List (SplitNode U C P F)) (begun : Option (BegunNode U F)) (item : Item R A U C P F) → MayComeAfter (splits_items splits ++ items_if begun_items begun) item → IsTrue (may_come (next_of begun) item)
  held-may splits begun item = going-may any_steps [] (splits_items splits ++ items_if begun_items begun) (held_stage splits begun) item (led-held R A U C P F splits begun)

  -- in a node that has begun no node may come, and after its found point no cut and no found point
  pub not-node : (splits : List (SplitNode U C P F)) (node : BegunNode U F) (item : Item R A U C P F) → item ≡ Node → MayComeAfter (splits_items splits ++ begun_items node) item → ⊥
  not-node splits node item is may = at node.found (subst (λ other. IsTrue (may_come (inside node.found) other)) is (held-may splits (Some node) item may))
    where
      at : (found : Option F) → may_come {R = R} {A = A} {U = U} {C = C} {P = P} {F = F} (inside found) Node ≡ true → ⊥
      at None e = cc
      at (Some f) e = cc

  cut-found : (splits : List (SplitNode U C P F)) (node : BegunNode U F) (item : Item R A U C P F) (cut : U) → item ≡ Cut cut → MayComeAfter (splits_items splits ++ begun_items node) item → node.found ≡ None
  cut-found splits node item cut is may = at node.found (subst (λ other. IsTrue (may_come (inside node.found) other)) is (held-may splits (Some node) item may))
    where
      at : (found : Option F) → may_come {R = R} {A = A} {C = C} {P = P} {F = F} (inside found) (Cut cut) ≡ true → found ≡ None
      at None e = refl
      at (Some f) e = absurd cc

  found-found : (splits : List (SplitNode U C P F)) (node : BegunNode U F) (item : Item R A U C P F) (found : F) → item ≡ Found found → MayComeAfter (splits_items splits ++ begun_items node) item → node.found ≡ None
  found-found splits node item found is may = at node.found (subst (λ other. IsTrue (may_come (inside node.found) other)) is (held-may splits (Some node) item may))
    where
      at : (before : Option F) → may_come {R = R} {A = A} {U = U} {C = C} {P = P} (inside before) (Found found) ≡ true → before ≡ None
      at None e = refl
      at (Some f) e = absurd cc

  -- before a node begins no other item may come
  none-node : (splits : List (SplitNode U C P F)) (item : Item R A U C P F) → MayComeAfter (splits_items splits ++ []) item → item ≡ Node
  none-node splits item may = at item (held-may splits None item may)
    where
      at : (other : Item R A U C P F) → may_come ExpectNode other ≡ true → other ≡ Node
      at Node e = refl
      at (Cut u) e = absurd cc
      at (Found f) e = absurd cc
      at Empty e = absurd cc
      at (Dual cert) e = absurd cc
      at Point e = absurd cc
      at (Pending cert) e = absurd cc
      at (Split pick cert) e = absurd cc

  -- so the item that may come there is the first of its node
  pub node-next : (splits : List (SplitNode U C P F)) (item : Item R A U C P F) (cuts : List U) → cuts ≡ [] → MayComeAfter (splits_items splits ++ []) item → splits_items splits ++ begun_items (record { cuts = cuts; found = None }) ≡ (splits_items splits ++ []) ++ item ∷ []
  node-next splits item cuts none may =
      ap (λ us. splits_items splits ++ begun_items (record { cuts = us; found = None })) none
      ∙ ap (λ xs. xs ++ Node ∷ []) (sym (append-nil (splits_items splits)))
      ∙ ap (λ first. (splits_items splits ++ []) ++ first ∷ []) (sym (none-node splits item may))

  -- a cut that may come is the last item of its node, and so is a found point
  pub cut-next : (splits : List (SplitNode U C P F)) (node : BegunNode U F) (item : Item R A U C P F) (cut : U) (cuts : List U) → item ≡ Cut cut → cuts ≡ node.cuts ++ cut ∷ [] → MayComeAfter (splits_items splits ++ begun_items node) item → splits_items splits ++ begun_items (record { cuts = cuts; found = None }) ≡ (splits_items splits ++ begun_items node) ++ item ∷ []
  cut-next splits node item cut cuts is more may =
      let here : map Cut (node.cuts ++ cut ∷ []) ++ [] ≡ (map Cut node.cuts ++ []) ++ item ∷ [] =
      append-nil (map Cut (node.cuts ++ cut ∷ [])) ∙ map-append Cut node.cuts (cut ∷ []) ∙ ap (λ last. map Cut node.cuts ++ last ∷ []) (sym is) ∙ ap (λ xs. xs ++ item ∷ []) (sym (append-nil (map Cut node.cuts))) in
      ap (λ us. splits_items splits ++ begun_items (record { cuts = us; found = None })) more
      ∙ ap (λ xs. splits_items splits ++ Node ∷ xs) here
      ∙ ap (λ found. splits_items splits ++ (begun_items (record { cuts = node.cuts; found = found }) ++ item ∷ [])) (sym (cut-found splits node item cut is may))
      ∙ sym (append_assoc (splits_items splits) (begun_items node) (item ∷ []))

  pub found-next : (splits : List (SplitNode U C P F)) (node : BegunNode U F) (item : Item R A U C P F) (found : F) → item ≡ Found found → MayComeAfter (splits_items splits ++ begun_items node) item → splits_items splits ++ begun_items (record { cuts = node.cuts; found = Some found }) ≡ (splits_items splits ++ begun_items node) ++ item ∷ []
  found-next splits node item found is may =
      ap (λ xs. splits_items splits ++ Node ∷ (xs ++ Found found ∷ [])) (sym (append-nil (map Cut node.cuts)))
      ∙ ap (λ last. splits_items splits ++ (begun_items (record { cuts = node.cuts; found = None }) ++ last ∷ [])) (sym is)
      ∙ ap (λ other. splits_items splits ++ (begun_items (record { cuts = node.cuts; found = other }) ++ item ∷ [])) (sym (found-found splits node item found is may))
      ∙ sym (append_assoc (splits_items splits) (begun_items node) (item ∷ []))

  -- so is an end that splits nothing, with which the node is whole
  pub leaf-next : (splits : List (SplitNode U C P F)) (node : BegunNode U F) (item : Item R A U C P F) (end : Leaf C) (tree : Tree U C P F) → item ≡ leaf_item end → tree ≡ leaf node.cuts node.found end → splits_items splits ++ tree_items tree ≡ (splits_items splits ++ begun_items node) ++ item ∷ []
  leaf-next splits node item end tree is whole =
      ap (λ t. splits_items splits ++ tree_items t) whole
      ∙ ap (λ last. splits_items splits ++ Node ∷ (map Cut node.cuts ++ (map Found (option_to_list node.found) ++ last ∷ []))) (sym is)
      ∙ ap (λ xs. splits_items splits ++ Node ∷ xs) (sym (append_assoc (map Cut node.cuts) (map Found (option_to_list node.found)) (item ∷ [])))
      ∙ sym (append_assoc (splits_items splits) (begun_items node) (item ∷ []))

  -- and a split, which is then open
  pub split-next : (splits : List (SplitNode U C P F)) (node : BegunNode U F) (item : Item R A U C P F) (pick : P) (cert : C) → item ≡ Split pick cert → splits_items (record { node = node; pick = pick; cert = cert; left = None } ∷ splits) ≡ (splits_items splits ++ begun_items node) ++ item ∷ []
  split-next splits node item pick cert is =
      ap (λ last. splits_items splits ++ (begun_items node ++ last ∷ [])) (sym is)
      ∙ sym (append_assoc (splits_items splits) (begun_items node) (item ∷ []))

  -- the innermost split, closed by its right part, leaves the items as they are
  pub items-closed : (all splits : List (SplitNode U C P F)) (split : SplitNode U C P F) (left right proof : Proof U C P F) → all ≡ split ∷ splits → split.left ≡ Some left → tree_of proof ≡ two_parts split.node.cuts split.node.found split.pick split.cert (tree_of left) (tree_of right)
      → splits_items {R = R} {A = A} splits ++ proof_items proof ≡ splits_items all ++ proof_items right
  items-closed all splits split left right proof here left_ended whole =
      let parts : List (Item R A U C P F) = Split split.pick split.cert ∷ proof_items left in
      ap (λ tree. splits_items splits ++ tree_items tree) whole
      ∙ ap (λ xs. splits_items splits ++ Node ∷ xs) (sym (append_assoc (map Cut split.node.cuts) (map Found (option_to_list split.node.found)) (parts ++ proof_items right)))
      ∙ ap (λ xs. splits_items splits ++ xs) (sym (append_assoc (begun_items split.node) parts (proof_items right)))
      ∙ sym (append_assoc (splits_items splits) (begun_items split.node ++ parts) (proof_items right))
      ∙ ap (λ other. (splits_items splits ++ (begun_items split.node ++ Split split.pick split.cert ∷ items_if proof_items other)) ++ proof_items right) (sym left_ended)
      ∙ ap (λ others. splits_items others ++ proof_items right) (sym here)

  -- and so does the innermost split that keeps its left part
  pub items-left : (all splits : List (SplitNode U C P F)) (split : SplitNode U C P F) (proof : Proof U C P F) → all ≡ split ∷ splits → split.left ≡ None
      → splits_items {R = R} {A = A} (record split { left = Some proof } ∷ splits) ≡ splits_items all ++ proof_items proof
  items-left all splits split proof here none =
      let last : List (Item R A U C P F) = Split split.pick split.cert ∷ [] in
      ap (λ xs. splits_items splits ++ xs) (sym (append_assoc (begun_items split.node) last (proof_items proof)))
      ∙ sym (append_assoc (splits_items splits) (begun_items split.node ++ last) (proof_items proof))
      ∙ ap (λ other. (splits_items splits ++ (begun_items split.node ++ Split split.pick split.cert ∷ items_if proof_items other)) ++ proof_items proof) (sym none)
      ∙ ap (λ others. splits_items others ++ proof_items proof) (sym here)

-- the items of a proof that was built are whole
pub built-whole : {R A U C P F : Type 0} (items : List (Item R A U C P F)) (proof : Proof U C P F) → IsBuilt items (Whole proof) → AreWhole items
built-whole items proof is = subst AreWhole (sym is) (tree_whole _ _ (tree_of proof))

-- what a builder holds is never the whole of a proof
pub built-not_whole : {R A U C P F : Type 0} (items : List (Item R A U C P F)) (builder : TreeBuilder R A U C P F) → HasBuilt items builder → ¬ AreWhole items
built-not_whole items builder built whole = whole-not_going any_steps [] items (held_stage builder.splits builder.begun) whole (built-form _ _ items builder built)

-- the proof that was built, where it is whole
abbrev pub proof_if : {R A U C P F : Type 0} → Option (Built R A U C P F) → Option (Proof U C P F)
proof_if None = None
proof_if (Some (More builder)) = None
proof_if (Some (Whole proof)) = Some proof

misplaced-not_ended : {P : Type 0} (outcome : Outcome P) → outcome ≡ misplaced → outcome ≡ ended NoPoint → ⊥
misplaced-not_ended outcome wrong over = cc

-- whole items that a taker holds are those of the proof that was built of them
pub holds-whole : {R A U C P F : Type 0} (tree : Tree U C P F) (built : Option (Built R A U C P F)) → HoldsBuilt (tree_items tree) built
    → IsSomeAnd (proof_if built) (λ proof. tree_of proof ≡ tree)
holds-whole {R = R} {A = A} tree None is = absurd (misplaced-not_ended _ is (tree_whole R A tree))
holds-whole tree (Some (More builder)) is = absurd (built-not_whole (tree_items tree) builder is (tree_whole _ _ tree))
holds-whole tree (Some (Whole proof)) is = items-one_tree (tree_of proof) tree (sym is)

-- after the items of a whole proof none may come
pub whole-wrong : {R A U C P F : Type 0} (items : List (Item R A U C P F)) (proof : Proof U C P F) (item : Item R A U C P F) → IsBuilt items (Whole proof) → form_of (items ++ item ∷ []) ≡ misplaced
whole-wrong items proof item is =
    walked-append _ _ _ any_steps (start []) items (item ∷ []) ∙ ap (λ o. walked any_steps o (item ∷ [])) (built-whole items proof is)

-- after an item that may not come none may come
pub wrong-wrong : {R A U C P F : Type 0} (items : List (Item R A U C P F)) (item : Item R A U C P F) → form_of items ≡ misplaced → form_of (items ++ item ∷ []) ≡ misplaced
wrong-wrong items item is = walked-append _ _ _ any_steps (start []) items (item ∷ []) ∙ ap (λ o. walked any_steps o (item ∷ [])) is

-- a taker that holds one more item holds it after those before
pub holding-next : {R K A U C P F : Type 0} (before old new : TreeTaker R K A U C P F) (items : List (Item R A U C P F)) (item : Item R A U C P F) → Holding before items old
    → ((held : List (Item R A U C P F)) → HoldsItems held old → HoldsItems (held ++ item ∷ []) new) → Holding before (items ++ item ∷ []) new
holding-next before old new items item so_far next =
    record { grown = λ held holds. subst (λ xs. HoldsItems xs new) (append_assoc held items (item ∷ [])) (next (held ++ items) (so_far.grown held holds)) }
