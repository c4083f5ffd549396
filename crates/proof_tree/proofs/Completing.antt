-- Items in their places are the first of those of a proof.
use Rattle.std.proofs.Common.{◌≡◌, ◌≢◌, List, [], ◌∷◌, ◌++◌, Option, Some, None, refl, ap, sym, ◌∙◌}
use Rattle.std.specs.Prelude.{⊤}
use Rattle.std.specs.List.{All}
use Rattle.std.proofs.lemmas.List.{append-nil}
use Rattle.std.proofs.lemmas.List.Elements.{All-append, All-cons, All-head, All-nil, All-tail, filter_map-append}
use Rattle.proof_tree.specs.declared.capped.Capped.{Capped}
use Rattle.proof_tree.specs.declared.capped.Capped.TheVariants.{NoPoint}
use Rattle.proof_tree.specs.declared.item.Item.{Item}
use Rattle.proof_tree.specs.declared.item.Item.TheVariants.{Node, Empty}
use Rattle.proof_tree.specs.declared.walk.Expected.{Expected}
use Rattle.proof_tree.specs.declared.walk.Expected.TheVariants.{Node as ExpectNode, Inside, End, Nothing}
use Rattle.proof_tree.specs.Cap.{greater, floor_cap}
use Rattle.proof_tree.specs.Form.{any_steps, form_of}
use Rattle.proof_tree.specs.Items.{tree_items, found_of, found_in}
use Rattle.proof_tree.specs.Nodes.{found_points}
use Rattle.proof_tree.specs.Tree.{Tree}
use Rattle.proof_tree.specs.Views.{View}
use Rattle.proof_tree.specs.Walk.{Opened, Outcome, going, ended, undefined, misplaced, close, close_split, walked, start}
use Rattle.proof_tree.proofs.Folds.{found_in-tree}
use Rattle.proof_tree.proofs.Forms.{form-awaits, form-defined, tree_whole}
use Rattle.proof_tree.proofs.WalkLaw.{stage_at, walked-append, walked-misplaced}
use Rattle.proof_tree.proofs.WalkTree.{walked-is_tree}

-- an item that says no more than that a node begins, or that it has no point
abbrev pub IsPlain : {R A U C P F : Type 0} → Item R A U C P F → Type 0
IsPlain Node = ⊤
IsPlain Empty = ⊤
IsPlain item = ⊥

-- a proof whose items begin with these, and go on with plain ones
pub record Completion {R A U C P F : Type 0} (items : List (Item R A U C P F)) : Type 0 where
  pub tree : Tree U C P F
  pub later : List (Item R A U C P F)
  pub plain : All IsPlain later
  pub is : tree_items tree ≡ items ++ later

-- the items that end a node in which these may come
abbrev ending : {R A U C P F : Type 0} → Expected → List (Item R A U C P F)
ending ExpectNode = Node ∷ (Empty ∷ [])
ending Inside = Empty ∷ []
ending End = Empty ∷ []
ending Nothing = []

-- the items of a right part, where only the left one has ended
abbrev right_items : {R A U C P F : Type 0} → Option Capped → List (Item R A U C P F)
right_items None = Node ∷ (Empty ∷ [])
right_items (Some cap) = []

-- the items of the right parts that are still to come
abbrev closing : {R A U C P F : Type 0} → List (Opened P) → List (Item R A U C P F)
closing [] = []
closing (split ∷ splits) = right_items split.left ++ closing splits

module _ (R A U C P F : Type 0) where
  plain_empty : All (IsPlain {R = R} {A = A} {U = U} {C = C} {P = P} {F = F}) (Empty ∷ [])
  plain_empty = All-cons IsPlain Empty [] tt (All-nil IsPlain)

  plain_node : All (IsPlain {R = R} {A = A} {U = U} {C = C} {P = P} {F = F}) (Node ∷ (Empty ∷ []))
  plain_node = All-cons IsPlain Node (Empty ∷ []) tt plain_empty

  plain-ending : (expected : Expected) → All (IsPlain {R = R} {A = A} {U = U} {C = C} {P = P} {F = F}) (ending expected)
  plain-ending ExpectNode = plain_node
  plain-ending Inside = plain_empty
  plain-ending End = plain_empty
  plain-ending Nothing = All-nil IsPlain

  plain-right : (left : Option Capped) → All (IsPlain {R = R} {A = A} {U = U} {C = C} {P = P} {F = F}) (right_items left)
  plain-right None = plain_node
  plain-right (Some cap) = All-nil IsPlain

  plain-closing : (splits : List (Opened P)) → All (IsPlain {R = R} {A = A} {U = U} {C = C} {P = P} {F = F}) (closing splits)
  plain-closing [] = All-nil IsPlain
  plain-closing (split ∷ splits) = All-append IsPlain (right_items split.left) (closing splits) (plain-right split.left) (plain-closing splits)

  -- what items lead to under any steps
  abbrev led : Outcome P → List (Item R A U C P F) → Outcome P
  led outcome items = walked any_steps outcome items

  -- the right parts end all that is open
  led-closing : (splits : List (Opened P)) (part_cap : Capped) → (cap : Capped) × (led (close (any_steps {U = U} {C = C}) splits part_cap) (closing splits) ≡ ended cap)
  led-closing [] part_cap = (part_cap, refl)
  led-closing (split ∷ splits) part_cap = at split.left (led-closing splits)
    where
      at : (left : Option Capped) → ((c : Capped) → (cap : Capped) × (led (close (any_steps {U = U} {C = C}) splits c) (closing splits) ≡ ended cap))
          → (cap : Capped) × (led (close_split (any_steps {U = U} {C = C}) split splits part_cap left (close (any_steps {U = U} {C = C}) splits)) (right_items left ++ closing splits) ≡ ended cap)
      at None rest = rest (greater (greater (floor_cap split.floor) part_cap) NoPoint)
      at (Some left) rest = rest (greater left part_cap)

  led-ending : (expected : Expected) (splits : List (Opened P)) (v : View) → expected ≢ Nothing → (cap : Capped) × (led (stage_at expected splits v) (ending expected ++ closing splits) ≡ ended cap)
  led-ending ExpectNode splits v awaits = led-closing splits NoPoint
  led-ending Inside splits v awaits = led-closing splits NoPoint
  led-ending End splits v awaits = led-closing splits NoPoint
  led-ending Nothing splits v awaits = absurd (awaits refl)

module _ {R A U C P F : Type 0} where
  -- items that come to an end with later ones are the first of a proof
  completed : (items later : List (Item R A U C P F)) (cap : Capped) → All IsPlain later → form_of (items ++ later) ≡ ended cap → Completion items
  completed items later cap plain over =
      let whole = walked-is_tree R A F any_steps [] (items ++ later) cap over in
      record { tree = whole.0; later = later; plain = plain; is = sym whole.1 }

  -- items in their places are the first of a proof
  pub completion : (items : List (Item R A U C P F)) → form_of items ≢ misplaced → Completion items
  completion items placed = at (form_of items) refl
    where
      at : (outcome : Outcome P) → form_of items ≡ outcome → Completion items
      at (going stage) is =
          let later = ending {R = R} {A = A} {U = U} {C = C} {P = P} {F = F} stage.expected ++ closing stage.splits in
          let done = led-ending R A U C P F stage.expected stage.splits stage.view (form-awaits items stage is) in
          let plain : All IsPlain later = All-append IsPlain (ending stage.expected) (closing stage.splits) (plain-ending R A U C P F stage.expected) (plain-closing R A U C P F stage.splits) in
          completed items later done.0 plain (walked-append R A F any_steps (start []) items later ∙ ap (λ o. walked any_steps o later) is ∙ done.1)
      at (ended part_cap) is = completed items [] part_cap (All-nil IsPlain) (ap form_of (append-nil items) ∙ is)
      at undefined is = absurd (form-defined items is)
      at misplaced is = absurd (placed is)

  -- the first items of a proof are in their places
  pub first_placed : (tree : Tree U C P F) (items later : List (Item R A U C P F)) → tree_items tree ≡ items ++ later → form_of items ≢ misplaced
  first_placed tree items later is wrong =
      let all_wrong : form_of (items ++ later) ≡ misplaced = walked-append R A F any_steps (start []) items later ∙ ap (λ o. walked any_steps o later) wrong ∙ walked-misplaced R A F any_steps later in
      let over : form_of (items ++ later) ≡ ended NoPoint = ap form_of (sym is) ∙ tree_whole R A tree in
      apart (form_of (items ++ later)) all_wrong over
    where
      apart : (outcome : Outcome P) → outcome ≡ misplaced → outcome ≡ ended NoPoint → ⊥
      apart outcome out over = cc

  -- plain items hold no found point
  pub found_in-plain : (items : List (Item R A U C P F)) → All IsPlain items → found_in items ≡ []
  found_in-plain [] plain = refl
  found_in-plain (item ∷ items) plain = at item (All-head IsPlain item items plain) ∙ found_in-plain items (All-tail IsPlain item items plain)
    where
      at : (first : Item R A U C P F) → IsPlain first → found_in (first ∷ items) ≡ found_in items
      at Node is = refl
      at Empty is = refl
      at item is = absurd is

  -- a completion finds no further point
  pub completion-found : (items : List (Item R A U C P F)) (whole : Completion items) → found_points whole.tree ≡ found_in items
  completion-found items whole =
      sym (found_in-tree R A whole.tree) ∙ ap found_in whole.is ∙ filter_map-append found_of items whole.later
      ∙ ap (λ fs. found_in items ++ fs) (found_in-plain whole.later whole.plain) ∙ append-nil (found_in items)
