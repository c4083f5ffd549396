-- The walk over a proof's items: where it stands, what an item leads to, and what a list of items leads to.
use Rattle.std.specs.Prelude.{◌≡◌, ℕ, ℤ, ◌+◌, ◌<◌, ◌-◌, Bool, true, false, List, [], ◌∷◌, map, length, take, Option, Some, None, IsSome, MatchOption, unwrap_or, if◌then◌else◌, fold, IsTrue, ⊤}
use Rattle.proof_tree.specs.declared.capped.Capped.{Capped}
use Rattle.proof_tree.specs.declared.capped.Capped.TheVariants.{AtMost, NoPoint, Bad}
use Rattle.proof_tree.specs.declared.item.Item.{Item}
use Rattle.proof_tree.specs.declared.item.Item.TheVariants.{Node, Cut, Found, Empty, Dual, Point, Pending, Split}
use Rattle.proof_tree.specs.declared.walk.Expected.{Expected}
use Rattle.proof_tree.specs.declared.walk.Expected.TheVariants.{Node as ExpectNode, Inside, End, Nothing}
use Rattle.proof_tree.specs.declared.walk.OpenSplit.{OpenSplit}
use Rattle.proof_tree.specs.declared.walk.Took.{Took}
use Rattle.proof_tree.specs.declared.walk.Took.TheVariants.{More, Done, Bad as TookBad}
use Rattle.proof_tree.specs.declared.walk.Walk.{Walk}
use Rattle.proof_tree.specs.Cap.{greater, floor_cap}
use Rattle.proof_tree.specs.Relaxation.{Steps}
use Rattle.proof_tree.specs.Tree.{no_point, dual, one_point, pending, leaf_cap}
use Rattle.proof_tree.specs.Views.{View, view_at, present}

-- an open split: the view of what it has not forgotten, its pick, its floor, and once its left part has ended the greater of that part's cap and the floor's
pub record Opened (P : Type 0) : Type 0 where
  pub view : View
  pub pick : P
  pub floor : Option ℤ
  pub left : Option Capped

-- where a walk stands: which items may come, the open splits, innermost first, and the present view
pub record Stage (P : Type 0) : Type 0 where
  pub expected : Expected
  pub splits : List (Opened P)
  pub view : View

-- what items lead to: a stage, a cap, something that has no cap, or an item that may not come
pub data Outcome (P : Type 0) : Type 0 where
  going : Stage P → Outcome P
  ended : Capped → Outcome P
  undefined : Outcome P
  misplaced : Outcome P

-- whether the item may come next
abbrev pub may_come : {R A U C P F : Type 0} → Expected → Item R A U C P F → Bool
may_come ExpectNode Node = true
may_come ExpectNode item = false
may_come Inside Node = false
may_come Inside item = true
may_come End Node = false
may_come End (Cut u) = false
may_come End (Found f) = false
may_come End item = true
may_come Nothing item = false

-- the stage where these items may come, over a view that has to be there
abbrev pub going_to : {P : Type 0} → Expected → List (Opened P) → Option View → Outcome P
going_to expected splits None = undefined
going_to expected splits (Some v) = going (record { expected = expected; splits = splits; view = v })

-- where the innermost open split's left part has ended its right part begins, and where its right part has ended so has the part in which it stands
abbrev pub close_split : {U C P : Type 0} → Steps U C P → Opened P → List (Opened P) → Capped → Option Capped → (Capped → Outcome P) → Outcome P
close_split s split splits cap None close = going_to ExpectNode (record split { left = Some (greater (floor_cap split.floor) cap) } ∷ splits) (s.right split.view split.pick)
close_split s split splits cap (Some left) close = close (greater left cap)

-- a part ends with a cap: where no split is open, the proof ends with it
abbrev pub close : {U C P : Type 0} → Steps U C P → List (Opened P) → Capped → Outcome P
close s [] cap = ended cap
close s (split ∷ splits) cap = close_split s split splits cap split.left (close s splits)

-- a part ends, with a cap or with none
abbrev pub part_ended : {U C P : Type 0} → Steps U C P → List (Opened P) → Capped → Outcome P
part_ended s splits Bad = undefined
part_ended s splits NoPoint = close s splits NoPoint
part_ended s splits (AtMost n) = close s splits (AtMost n)

-- a split that has just been opened in this view
abbrev pub split_open : {U C P : Type 0} → Steps U C P → View → P → C → Opened P
split_open s v pick cert = record { view = s.trim v pick cert; pick = pick; floor = s.floor v pick cert; left = None }

-- what an item leads to that may come: a node is entered, a cut narrows the view, a split forgets points and opens its left part, any other end ends a part
abbrev pub come_to : {R A U C P F : Type 0} → Steps U C P → List (Opened P) → View → Item R A U C P F → Outcome P
come_to s splits v Node = going_to Inside splits (Some v)
come_to s splits v (Cut cut) = going_to Inside splits (s.cut v cut)
come_to s splits v (Found found) = going_to End splits (Some v)
come_to s splits v Empty = part_ended s splits (leaf_cap s v no_point)
come_to s splits v (Dual cert) = part_ended s splits (leaf_cap s v (dual cert))
come_to s splits v Point = part_ended s splits (leaf_cap s v one_point)
come_to s splits v (Pending cert) = part_ended s splits (leaf_cap s v (pending cert))
come_to s splits v (Split pick cert) =
    going_to ExpectNode (split_open s v pick cert ∷ splits) (s.left (s.trim v pick cert) pick)

-- what an item leads to
abbrev pub step : {R A U C P F : Type 0} → Steps U C P → Stage P → Item R A U C P F → Outcome P
step s stage item = if may_come stage.expected item then come_to s stage.splits stage.view item else misplaced

-- what a further item leads to: where one has led to no cap, the rest stays without one, and after the end none may come
abbrev pub after : {R A U C P F : Type 0} → Steps U C P → Outcome P → Item R A U C P F → Outcome P
after s (going stage) item = step s stage item
after s (ended cap) item = misplaced
after s undefined item = undefined
after s misplaced item = misplaced

-- what items lead to, one after another
abbrev pub walked : {R A U C P F : Type 0} → Steps U C P → Outcome P → List (Item R A U C P F) → Outcome P
walked s outcome items = fold (after s) outcome items

-- the outcome before the first item, over a view
abbrev pub start : {P : Type 0} → View → Outcome P
start v = going (record { expected = ExpectNode; splits = []; view = v })

-- a proof that has a cap ends with it, and one that has none is undefined
abbrev pub outcome_of : {P : Type 0} → Capped → Outcome P
outcome_of Bad = undefined
outcome_of NoPoint = ended NoPoint
outcome_of (AtMost n) = ended (AtMost n)

-- how many splits are open
abbrev pub open_count : {P : Type 0} → Outcome P → ℕ
open_count (going stage) = length stage.splits
open_count (ended cap) = 0
open_count undefined = 0
open_count misplaced = 0

-- an item of a proof comes where it may come, or where an earlier one has led to no cap
abbrev pub ComesNext : {R A U C P F : Type 0} → Outcome P → Item R A U C P F → Type 0
ComesNext (going stage) item = IsTrue (may_come stage.expected item)
ComesNext (ended cap) item = ⊥
ComesNext undefined item = ⊤
ComesNext misplaced item = ⊥

-- what the items of a proof tell of its cap before the later ones: more have to come, or it ends with its cap, or it has none
abbrev pub Tells : {P I : Type 0} → Outcome P → List I → Capped → Type 0
Tells (going stage) later proof_cap = 0 < length later
Tells (ended cap) later proof_cap = (later ≡ []) × (cap ≡ proof_cap)
Tells undefined later proof_cap = proof_cap ≡ Bad
Tells misplaced later proof_cap = ⊥

-- an open split as the views of its area show it
abbrev pub opened : {P : Type 0} → List View → OpenSplit P → Opened P
opened views split = record { view = view_at views split.mark; pick = split.pick; floor = split.floor; left = split.left }

-- where a walk stands in an area with these views
abbrev pub stage_of : {R A U C P F : Type 0} → Walk R A U C P F → List View → Stage P
stage_of walk views = record { expected = walk.expected; splits = map (opened views) walk.splits; view = present views }

-- the open splits stand below a mark, innermost first and none under the first area: each is at or above those around it, and its pick names parts there
abbrev pub StandBelow : {U C P : Type 0} → Steps U C P → List View → ℕ → ℕ → List (OpenSplit P) → Type 0
StandBelow s views mark first [] = first < mark
StandBelow s views mark first (split ∷ splits) =
    (split.mark < mark) × IsSome (s.right (view_at views split.mark) split.pick) × StandBelow s views (split.mark + 1) first splits

-- the walk stands in an area with these views: it has no open split before its first item, and from then on each mark that it holds is at most the area's
abbrev pub Stands : {R A U C P F : Type 0} → Steps U C P → Walk R A U C P F → List View → Type 0
Stands s walk views = MatchOption walk.first (walk.splits ≡ []) (λ first. StandBelow s views (length views) first walk.splits)

-- the mark of the walk's first area: the one that it holds, or the present one before its first item
abbrev pub first_mark : {R A U C P F : Type 0} → Walk R A U C P F → List View → ℕ
first_mark walk views = unwrap_or walk.first (length views - 1)

-- what an item led to, as the walk answers it
abbrev pub IsAnswer : {R A U C P F : Type 0} → Took → Walk R A U C P F → List View → Outcome P → Type 0
IsAnswer More walk views outcome = outcome ≡ going (stage_of walk views)
IsAnswer (Done cap) walk views outcome = (outcome ≡ ended cap) × (walk.expected ≡ Nothing)
IsAnswer TookBad walk views outcome = (outcome ≡ undefined) × (walk.expected ≡ Nothing)

-- the views after an item: those of the first area after the last one, and the same as before where it led to nothing
abbrev pub GoesBack : Took → ℕ → List View → List View → Type 0
GoesBack More first old new = take (first + 1) new ≡ take (first + 1) old
GoesBack (Done cap) first old new = new ≡ take (first + 1) old
GoesBack TookBad first old new = new ≡ old
