-- What the functions of a search hand to a taker. Only clauses of private functions cite it.
use Rattle.std.specs.Prelude.{◌≡◌, ℕ, ◌+◌, ◌<◌, Bool, false, List, [], ◌∷◌, ◌++◌, map, Option, Some, option_to_list, IfSome}
use Rattle.std.specs.List.{All}
use Rattle.std.specs.Option.{IsSomeAnd}
use Rattle.row_kit.specs.declared.found.Found.{Found}
use Rattle.range_prop.specs.declared.row_cut.RowCut.{RowCut}
use Rattle.dual_bound.specs.declared.cert.Cert.{Cert}
use Rattle.proof_tree.specs.declared.capped.Capped.{Capped}
use Rattle.proof_tree.specs.declared.item.Item.TheVariants.{Node, Cut, Found as FoundItem, Split}
use Rattle.proof_tree.specs.Cap.{floor_cap, greater}
use Rattle.proof_tree.specs.Items.{tree_items, leaf_item}
use Rattle.proof_tree.specs.Nodes.{EachNode, closed, parted, counted, found_points}
use Rattle.proof_tree.specs.Tree.{Leaf, no_point, dual, one_point, pending, leaf, split, tree_cap, cap_if, after_cuts}
use Rattle.proof_tree.specs.Views.{View}
use Rattle.row_relax.specs.declared.pick.RowPick.{RowPick}
use Rattle.row_relax.specs.declared.rows.Rows.{Rows}
use Rattle.row_relax.specs.Choices.{choices_of, steps_of}
use Rattle.branch_tree.specs.declared.reached.Reached.{Reached}
use Rattle.row_relax.specs.RowProofs.{RowItem, RowTree}
use Rattle.branch_tree.specs.Justified.{IsGroup}
use Rattle.branch_tree.specs.Searched.{IsBest, IsFitItem}
use Rattle.branch_tree.specs.laws.Ends.{EndDone, ItemEnds, NodeDone}

-- whatever items were taken up to the first state, those and these are taken at the second
abbrev pub Grows : {T O : Type 0} → (took after : T → O → List RowItem → T → O → Type 0) → T → O → List RowItem → T → O → Type 0
Grows {T} {O} took after t o items t2 o2 =
    (taker : T) (outside : O) (before : List RowItem) → took taker outside before t o → after taker outside (before ++ items) t2 o2

-- the first items of a node: the node and its cuts
abbrev pub head_items : List RowCut → List RowItem
head_items cuts = Node ∷ map Cut cuts

-- the item of a found point, if there is one
abbrev pub found_items : Option Found → List RowItem
found_items found = map FoundItem (option_to_list found)

-- how a node ends, with what stands below it
pub data Tail : Type 0 where
  closing : Leaf Cert → Tail
  parting : RowPick → Cert → RowTree → RowTree → Tail

-- a node with these cuts, this found point and this end
abbrev pub node_of : List RowCut → Option Found → Tail → RowTree
node_of cuts found (closing end) = leaf cuts found end
node_of cuts found (parting pick cert a b) = split cuts found pick cert a b

-- the items of an end
abbrev pub tail_items : Tail → List RowItem
tail_items (closing end) = leaf_item end ∷ []
tail_items (parting pick cert a b) = Split pick cert ∷ (tree_items a ++ tree_items b)

-- the found points below an end
abbrev pub tail_found : Tail → List Found
tail_found (closing end) = []
tail_found (parting pick cert a b) = found_points a ++ found_points b

-- how many nodes of a tree are left open
abbrev pub opens : RowTree → ℕ
opens (leaf cuts found no_point) = 0
opens (leaf cuts found (dual cert)) = 0
opens (leaf cuts found one_point) = 0
opens (leaf cuts found (pending cert)) = 1
opens (split cuts found pick cert a b) = opens a + opens b

-- an end is as a search leaves it, over a view and with the found points up to it
abbrev pub TailDone : Rows → ℕ → View → List Found → Tail → Type 0
TailDone rows given view found (closing end) = EndDone rows given view found (closed end)
TailDone rows given view found (parting pick cert a b) =
    EndDone rows given view found (parted pick cert)
    × IsSomeAnd ((steps_of rows).left ((steps_of rows).trim view pick cert) pick) (λ x. EachNode (NodeDone rows given) (steps_of rows) (Some cert) found x a)
    × IsSomeAnd ((steps_of rows).right ((steps_of rows).trim view pick cert) pick) (λ y. EachNode (NodeDone rows given) (steps_of rows) (Some cert) (found ++ found_points a) y b)

-- the boxes that were counted of a tree, and whether one was left open before the budget was spent
pub record CountsTo (budget : ℕ) (may_leave : Bool) (boxes left : ℕ) (spent spent_after : ℕ) : Type 0 where
  pub counted : spent_after ≡ spent + boxes
  pub full : may_leave ≡ false → 0 < left → spent_after ≡ budget

-- the node and its cuts were put
pub record HeadHanded {T O : Type 0} (took : T → O → List RowItem → T → O → Type 0) (rows : Rows) (floors : Bool) (view : View) (t : T) (o : O) (view_after : View) (t2 : T) (o2 : O) : Type 0 where
  pub cuts : List RowCut
  pub moved : after_cuts (steps_of rows) view cuts ≡ Some view_after
  pub fit : All (IsFitItem rows floors) (head_items cuts)
  pub handed : Grows took took t o (head_items cuts) t2 o2

-- the found point of a box was put, if there is one, and this is the end of the box
pub record LookHanded {T O : Type 0} (took : T → O → List RowItem → T → O → Type 0) (rows : Rows) (floors : Bool) (given : ℕ) (view : View) (item : RowItem) (old : Reached) (t : T) (o : O) (new : Reached) (t2 : T) (o2 : O) : Type 0 where
  pub found : Option Found
  pub group : IfSome found (IsGroup (choices_of rows))
  pub best : (before : List Found) → IsBest old.best before → IsBest new.best (before ++ option_to_list found)
  pub ends : (before : List Found) → IsBest old.best before → ItemEnds rows given view (before ++ option_to_list found) item
  pub fit : IsFitItem rows floors item
  pub handed : Grows took took t o (found_items found) t2 o2

-- the end of a box was put, with what stands below it
pub record TailHanded {T O : Type 0} (took : T → O → List RowItem → T → O → Type 0) (rows : Rows) (floors : Bool) (given budget : ℕ) (may_leave : Bool) (view : View) (cap : Capped) (old : Reached) (t : T) (o : O) (new : Reached) (t2 : T) (o2 : O) : Type 0 where
  pub tail : Tail
  pub done : (found : List Found) → IsBest old.best found → TailDone rows given view found tail
  pub best : (found : List Found) → IsBest old.best found → IsBest new.best (found ++ tail_found tail)
  pub capped : (cuts : List RowCut) (found : Option Found) (first : View) → after_cuts (steps_of rows) first cuts ≡ Some view → cap ≡ tree_cap (steps_of rows) first (node_of cuts found tail)
  pub counts : (cuts : List RowCut) (found : Option Found) (spent : ℕ) → old.spent ≡ spent + 1 → CountsTo budget may_leave (counted (node_of cuts found tail)) (opens (node_of cuts found tail)) spent new.spent
  pub fit : All (IsFitItem rows floors) (tail_items tail)
  pub handed : Grows took took t o (tail_items tail) t2 o2

-- both parts of a split were put
pub record PartsHanded {T O : Type 0} (took : T → O → List RowItem → T → O → Type 0) (rows : Rows) (floors : Bool) (given budget : ℕ) (may_leave : Bool) (view : View) (pick : RowPick) (cert : Cert) (cap : Capped) (old : Reached) (t : T) (o : O) (new : Reached) (t2 : T) (o2 : O) : Type 0 where
  pub first : RowTree
  pub second : RowTree
  pub first_done : (found : List Found) → IsBest old.best found → IsSomeAnd ((steps_of rows).left view pick) (λ x. EachNode (NodeDone rows given) (steps_of rows) (Some cert) found x first)
  pub second_done : (found : List Found) → IsBest old.best found → IsSomeAnd ((steps_of rows).right view pick) (λ y. EachNode (NodeDone rows given) (steps_of rows) (Some cert) (found ++ found_points first) y second)
  pub best : (found : List Found) → IsBest old.best found → IsBest new.best (found ++ (found_points first ++ found_points second))
  pub capped : cap ≡ greater (cap_if ((steps_of rows).left view pick) (λ x. tree_cap (steps_of rows) x first)) (cap_if ((steps_of rows).right view pick) (λ y. tree_cap (steps_of rows) y second))
  pub counts : CountsTo budget may_leave (counted first + counted second) (opens first + opens second) old.spent new.spent
  pub fit : All (IsFitItem rows floors) (tree_items first ++ tree_items second)
  pub handed : Grows took took t o (tree_items first ++ tree_items second) t2 o2

-- both parts of what a split leaves were put; its cap is the greater of its floor's and of theirs
pub record SplitHanded {T O : Type 0} (took : T → O → List RowItem → T → O → Type 0) (rows : Rows) (floors : Bool) (given budget : ℕ) (may_leave : Bool) (view : View) (pick : RowPick) (cert : Cert) (cap : Capped) (old : Reached) (t : T) (o : O) (new : Reached) (t2 : T) (o2 : O) : Type 0 where
  pub parts_cap : Capped
  pub capped : cap ≡ greater (floor_cap ((steps_of rows).floor view pick cert)) parts_cap
  pub parts : PartsHanded took rows floors given budget may_leave ((steps_of rows).trim view pick cert) pick cert parts_cap old t o new t2 o2

-- a box was put that hangs below such a parent
pub record BoxHanded {T O : Type 0} (took : T → O → List RowItem → T → O → Type 0) (IsParent : Option Cert → Type 0) (rows : Rows) (floors : Bool) (given budget : ℕ) (may_leave : Bool) (view : View) (cap : Capped) (old : Reached) (t : T) (o : O) (new : Reached) (t2 : T) (o2 : O) : Type 0 where
  pub tree : RowTree
  pub done : (parent : Option Cert) (before : List Found) → IsParent parent → IsBest old.best before → EachNode (NodeDone rows given) (steps_of rows) parent before view tree
  pub best : (before : List Found) → IsBest old.best before → IsBest new.best (before ++ found_points tree)
  pub capped : cap ≡ tree_cap (steps_of rows) view tree
  pub counts : CountsTo budget may_leave (counted tree) (opens tree) old.spent new.spent
  pub fit : All (IsFitItem rows floors) (tree_items tree)
  pub handed : Grows took took t o (tree_items tree) t2 o2
