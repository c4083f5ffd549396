-- Where the items of a proof stand, whatever the proof is over: whole items are those of a tree, and a walk stands as the form does.
use Rattle.std.proofs.Common.{◌≡◌, ◌≢◌, Bool, true, false, List, [], ◌∷◌, ◌++◌, map, Option, Some, None, option_map, is_some, if◌then◌else◌, IsTrue, refl, ap, sym, ◌∙◌, subst, append_assoc}
use Rattle.std.specs.Prelude.{⊤}
use Rattle.proof_tree.specs.declared.capped.Capped.{Capped}
use Rattle.proof_tree.specs.declared.capped.Capped.TheVariants.{AtMost, NoPoint, Bad}
use Rattle.proof_tree.specs.declared.item.Item.{Item}
use Rattle.proof_tree.specs.declared.item.Item.TheVariants.{Node, Cut, Found, Empty, Dual, Point, Pending, Split}
use Rattle.proof_tree.specs.declared.walk.Expected.{Expected}
use Rattle.proof_tree.specs.declared.walk.Expected.TheVariants.{Node as ExpectNode, Inside, Nothing}
use Rattle.proof_tree.specs.Cap.{greater, floor_cap}
use Rattle.proof_tree.specs.Form.{any_steps, form_of, MayComeAfter, AreWhole}
use Rattle.proof_tree.specs.Items.{tree_items}
use Rattle.proof_tree.specs.Relaxation.{Steps}
use Rattle.proof_tree.specs.Tree.{Leaf, no_point, dual, one_point, pending, Tree, leaf, split as two_parts, tree_cap, leaf_cap, after_cuts}
use Rattle.proof_tree.specs.Views.{View}
use Rattle.proof_tree.specs.Walk.{Opened, Stage, Outcome, going, ended, undefined, misplaced, may_come, going_to, close, close_split, part_ended, split_open, come_to, step, after, walked, start, outcome_of}
use Rattle.proof_tree.proofs.WalkLaw.{walked-append, walked-next, walked-misplaced, walked-whole}
use Rattle.proof_tree.proofs.WalkTree.{walked-is_tree}

module _ (U C P : Type 0) where
  -- under any steps each cut leads on, and each tree has the cap of no point
  any_steps-cuts : (v : View) (cuts : List U) → after_cuts (any_steps {U = U} {C = C} {P = P}) v cuts ≡ Some v
  any_steps-cuts v [] = refl
  any_steps-cuts v (u ∷ us) = any_steps-cuts v us

  any_steps-leaf : (v : View) (end : Leaf C) → leaf_cap (any_steps {U = U} {C = C} {P = P}) v end ≡ NoPoint
  any_steps-leaf v no_point = refl
  any_steps-leaf v (dual cert) = refl
  any_steps-leaf v one_point = refl
  any_steps-leaf v (pending cert) = refl

  pub any_steps-cap : {F : Type 0} (v : View) (tree : Tree U C P F) → tree_cap any_steps v tree ≡ NoPoint
  any_steps-cap v (leaf cuts found end) = rw (any_steps-cuts v cuts) (any_steps-leaf v end)
  any_steps-cap v (two_parts cuts found pick cert a b) = rw (any_steps-cuts v cuts) (rw (any_steps-cap v a) (any_steps-cap v b))

-- whole items are those of a tree
pub whole_tree : {R A U C P F : Type 0} (items : List (Item R A U C P F)) → AreWhole items → (tree : Tree U C P F) × (items ≡ tree_items tree)
whole_tree items whole = let is = walked-is_tree _ _ _ any_steps [] items NoPoint whole in (is.0, is.1)

-- the items of a tree are whole
pub tree_whole : (R A : Type 0) {U C P F : Type 0} (tree : Tree U C P F) → AreWhole {R = R} {A = A} (tree_items tree)
tree_whole R A tree = walked-whole R A _ any_steps tree [] ∙ ap outcome_of (any_steps-cap _ _ _ [] tree)

-- an open split as the form has it: it has no floor, and a left part that has ended has the cap of no point
abbrev pub form_split : {P : Type 0} → Opened P → Opened P
form_split split = record { view = []; pick = split.pick; floor = None; left = option_map (λ cap. NoPoint) split.left }

-- a stage as the form has it: the same items may come, and the same left parts of the open splits have ended
abbrev pub form_stage : {P : Type 0} → Stage P → Stage P
form_stage stage = record { expected = stage.expected; splits = map form_split stage.splits; view = [] }

-- what a walk says of the form of its items
abbrev pub Alike : {P : Type 0} → Outcome P → Outcome P → Type 0
Alike (going stage) form = form ≡ going (form_stage stage)
Alike (ended cap) form = form ≡ ended NoPoint
Alike undefined form = ⊤
Alike misplaced form = form ≡ misplaced

-- the same left parts have ended
pub form_stage-left : {P : Type 0} (splits : List (Opened P)) → map (λ split. is_some split.left) (map form_split splits) ≡ map (λ split. is_some split.left) splits
form_stage-left [] = refl
form_stage-left (split ∷ splits) = at split.left (form_stage-left splits)
  where
    at : (left : Option Capped) {bs cs : List Bool} → bs ≡ cs → is_some (option_map (λ cap. NoPoint) left) ∷ bs ≡ is_some left ∷ cs
    at None rest = ap (λ bs. false ∷ bs) rest
    at (Some cap) rest = ap (λ bs. true ∷ bs) rest

module _ {U C P : Type 0} (s : Steps U C P) where
  alike-next : (expected : Expected) (splits : List (Opened P)) (next : Option View) → Alike (going_to expected splits next) (going_to expected (map form_split splits) (Some []))
  alike-next expected splits None = tt
  alike-next expected splits (Some w) = refl

  alike-close : (splits : List (Opened P)) (part_cap : Capped) → Alike (close s splits part_cap) (close (any_steps {U = U} {C = C}) (map form_split splits) NoPoint)
  alike-close [] part_cap = refl
  alike-close (split ∷ splits) part_cap = at split.left (alike-close splits)
    where
      at : (left : Option Capped) → ((c : Capped) → Alike (close s splits c) (close (any_steps {U = U} {C = C}) (map form_split splits) NoPoint))
          → Alike (close_split s split splits part_cap left (close s splits)) (close_split (any_steps {U = U} {C = C}) (form_split split) (map form_split splits) NoPoint (option_map (λ cap. NoPoint) left) (close (any_steps {U = U} {C = C}) (map form_split splits)))
      at None rest = alike-next ExpectNode (record split { left = Some (greater (floor_cap split.floor) part_cap) } ∷ splits) (s.right split.view split.pick)
      at (Some left) rest = rest (greater left part_cap)

  alike-ended : (splits : List (Opened P)) (part_cap : Capped) → Alike (part_ended s splits part_cap) (close (any_steps {U = U} {C = C}) (map form_split splits) NoPoint)
  alike-ended splits Bad = tt
  alike-ended splits NoPoint = alike-close splits NoPoint
  alike-ended splits (AtMost n) = alike-close splits (AtMost n)

module _ {R A U C P F : Type 0} (s : Steps U C P) where
  alike-taken : (splits : List (Opened P)) (v : View) (item : Item R A U C P F) → Alike (come_to s splits v item) (come_to any_steps (map form_split splits) [] item)
  alike-taken splits v Node = refl
  alike-taken splits v (Cut u) = alike-next s Inside splits (s.cut v u)
  alike-taken splits v (Found found) = refl
  alike-taken splits v Empty = alike-ended s splits (leaf_cap s v no_point)
  alike-taken splits v (Dual cert) = alike-ended s splits (leaf_cap s v (dual cert))
  alike-taken splits v Point = alike-ended s splits (leaf_cap s v one_point)
  alike-taken splits v (Pending cert) = alike-ended s splits (leaf_cap s v (pending cert))
  alike-taken splits v (Split pick cert) = alike-next s ExpectNode (split_open s v pick cert ∷ splits) (s.left (s.trim v pick cert) pick)

  alike-step : (stage : Stage P) (item : Item R A U C P F) → Alike (step s stage item) (step any_steps (form_stage stage) item)
  alike-step stage item = at (may_come stage.expected item)
    where
      at : (may : Bool) → Alike (if may then come_to s stage.splits stage.view item else misplaced) (if may then come_to any_steps (map form_split stage.splits) [] item else misplaced)
      at true = alike-taken stage.splits stage.view item
      at false = refl

  alike-after : (outcome form : Outcome P) (item : Item R A U C P F) → Alike outcome form → Alike (after s outcome item) (after any_steps form item)
  alike-after (going stage) form item is = subst (λ o. Alike (step s stage item) (after any_steps o item)) (sym is) (alike-step stage item)
  alike-after (ended part_cap) form item is = ap (λ o. after any_steps o item) is
  alike-after undefined form item is = tt
  alike-after misplaced form item is = ap (λ o. after any_steps o item) is

  alike-walked : (outcome form : Outcome P) (items : List (Item R A U C P F)) → Alike outcome form → Alike (walked s outcome items) (walked any_steps form items)
  alike-walked outcome form [] is = is
  alike-walked outcome form (item ∷ items) is = alike-walked (after s outcome item) (after any_steps form item) items (alike-after outcome form item is)

  -- under any steps a walk stands as the form does
  pub alike : (v : View) (items : List (Item R A U C P F)) → Alike (walked s (start v) items) (form_of items)
  alike v items = alike-walked (start v) (start []) items refl

  -- where a walk goes on, an item that may come after its items is one that may come next
  pub going-may : (v : View) (items : List (Item R A U C P F)) (stage : Stage P) (item : Item R A U C P F) → walked s (start v) items ≡ going stage → MayComeAfter items item → IsTrue (may_come stage.expected item)
  going-may v items stage item is may = at (may_come stage.expected item) refl
    where
      so_far : form_of items ≡ going (form_stage stage)
      so_far = subst (λ o. Alike o (form_of items)) is (alike v items)

      at : (b : Bool) → may_come stage.expected item ≡ b → may_come stage.expected item ≡ true
      at true e = e
      at false e = absurd (may (walked-next R A F any_steps (start []) items item (form_stage stage) so_far
          ∙ ap (λ b. if b then come_to any_steps (map form_split stage.splits) [] item else misplaced) e))

  -- where a walk has ended, no item may come
  pub ended-none : (v : View) (items : List (Item R A U C P F)) (proof_cap : Capped) (item : Item R A U C P F) → walked s (start v) items ≡ ended proof_cap → ¬ MayComeAfter items item
  ended-none v items proof_cap item is may =
      let so_far : form_of items ≡ ended NoPoint = subst (λ o. Alike o (form_of items)) is (alike v items) in
      may (walked-append R A F any_steps (start []) items (item ∷ []) ∙ ap (λ o. after any_steps o item) so_far)

  -- after whole items no walk goes on
  pub whole-not_going : (v : View) (items : List (Item R A U C P F)) (stage : Stage P) → AreWhole items → walked s (start v) items ≢ going stage
  whole-not_going v items stage whole is =
      let so_far : form_of items ≡ going (form_stage stage) = subst (λ o. Alike o (form_of items)) is (alike v items) in
      cc

-- items that an item may come after are themselves in their places
pub may-so_far : {R A U C P F : Type 0} (items : List (Item R A U C P F)) (item : Item R A U C P F) → MayComeAfter items item → form_of items ≢ misplaced
may-so_far items item may is = may (walked-append _ _ _ any_steps (start []) items (item ∷ []) ∙ ap (λ o. after any_steps o item) is)

-- each item of whole items may come after those before it
pub whole-may : {R A U C P F : Type 0} (before : List (Item R A U C P F)) (item : Item R A U C P F) (later : List (Item R A U C P F)) → AreWhole (before ++ item ∷ later) → MayComeAfter before item
whole-may before item later whole is =
    let led : form_of ((before ++ item ∷ []) ++ later) ≡ ended NoPoint = ap form_of (append_assoc before (item ∷ []) later) ∙ whole in
    let wrong : form_of ((before ++ item ∷ []) ++ later) ≡ misplaced = walked-append _ _ _ any_steps (start []) (before ++ item ∷ []) later ∙ ap (λ o. walked any_steps o later) is ∙ walked-misplaced _ _ _ any_steps later in
    cc

-- an outcome that some item led to: a stage where another may come, or a cap
abbrev Leads : {P : Type 0} → Outcome P → Type 0
Leads (going stage) = stage.expected ≢ Nothing
Leads (ended part_cap) = ⊤
Leads undefined = ⊥
Leads misplaced = ⊥

Leads-close : (U C : Type 0) {P : Type 0} (splits : List (Opened P)) (part_cap : Capped) → Leads (close (any_steps {U = U} {C = C}) splits part_cap)
Leads-close U C [] part_cap = tt
Leads-close U C (split ∷ splits) part_cap = at split.left (Leads-close U C splits)
  where
    at : (left : Option Capped) → ((c : Capped) → Leads (close (any_steps {U = U} {C = C}) splits c)) → Leads (close_split (any_steps {U = U} {C = C}) split splits part_cap left (close (any_steps {U = U} {C = C}) splits))
    at None rest = λ is. cc
    at (Some left) rest = rest (greater left part_cap)

Leads-taken : {R A U C P F : Type 0} (splits : List (Opened P)) (v : View) (item : Item R A U C P F) → Leads (come_to any_steps splits v item)
Leads-taken splits v Node = λ is. cc
Leads-taken splits v (Cut u) = λ is. cc
Leads-taken splits v (Found f) = λ is. cc
Leads-taken {U = U} {C = C} splits v Empty = Leads-close U C splits NoPoint
Leads-taken {U = U} {C = C} splits v (Dual cert) = Leads-close U C splits NoPoint
Leads-taken {U = U} {C = C} splits v Point = Leads-close U C splits NoPoint
Leads-taken {U = U} {C = C} splits v (Pending cert) = Leads-close U C splits NoPoint
Leads-taken splits v (Split pick cert) = λ is. cc

-- where items lead to a stage, an item that may come next may come after them, and any other is out of place
pub going-comes : {R A U C P F : Type 0} (items : List (Item R A U C P F)) (stage : Stage P) (item : Item R A U C P F) → form_of items ≡ going stage → may_come stage.expected item ≡ true → MayComeAfter items item
going-comes items stage item so_far may is =
    let next = walked-next _ _ _ any_steps (start []) items item stage so_far ∙ ap (λ b. if b then come_to any_steps stage.splits stage.view item else misplaced) may in
    subst Leads (sym next ∙ is) (Leads-taken stage.splits stage.view item)

pub going-wrong : {R A U C P F : Type 0} (items : List (Item R A U C P F)) (stage : Stage P) (item : Item R A U C P F) → form_of items ≡ going stage → may_come stage.expected item ≡ false → form_of (items ++ item ∷ []) ≡ misplaced
going-wrong items stage item so_far may =
    walked-next _ _ _ any_steps (start []) items item stage so_far ∙ ap (λ b. if b then come_to any_steps stage.splits stage.view item else misplaced) may

-- an outcome that items lead to, whether they are in their places or not
abbrev Formed : {P : Type 0} → Outcome P → Type 0
Formed (going stage) = stage.expected ≢ Nothing
Formed (ended part_cap) = ⊤
Formed undefined = ⊥
Formed misplaced = ⊤

Leads-formed : {P : Type 0} (outcome : Outcome P) → Leads outcome → Formed outcome
Leads-formed (going stage) is = is
Leads-formed (ended part_cap) is = tt
Leads-formed undefined is = is
Leads-formed misplaced is = tt

Formed-after : {R A U C P F : Type 0} (outcome : Outcome P) (item : Item R A U C P F) → Formed outcome → Formed (after any_steps outcome item)
Formed-after (going stage) item is = at (may_come stage.expected item)
  where
    at : (may : Bool) → Formed (if may then come_to any_steps stage.splits stage.view item else misplaced)
    at true = Leads-formed (come_to any_steps stage.splits stage.view item) (Leads-taken stage.splits stage.view item)
    at false = tt
Formed-after (ended part_cap) item is = tt
Formed-after undefined item is = is
Formed-after misplaced item is = tt

Formed-walked : {R A U C P F : Type 0} (outcome : Outcome P) (items : List (Item R A U C P F)) → Formed outcome → Formed (walked any_steps outcome items)
Formed-walked outcome [] is = is
Formed-walked outcome (item ∷ items) is = Formed-walked (after any_steps outcome item) items (Formed-after outcome item is)

-- a form is never undefined, and where it goes on something may come
pub form-defined : {R A U C P F : Type 0} (items : List (Item R A U C P F)) → form_of items ≢ undefined
form-defined items is = subst Formed is (Formed-walked (start []) items (λ same. cc))

pub form-awaits : {R A U C P F : Type 0} (items : List (Item R A U C P F)) (stage : Stage P) → form_of items ≡ going stage → stage.expected ≢ Nothing
form-awaits items stage is = subst Formed is (Formed-walked (start []) items (λ same. cc))
