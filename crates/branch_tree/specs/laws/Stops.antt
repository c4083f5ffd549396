-- What was handed to a taker before a search broke off. Only clauses of private functions cite it.
use Rattle.std.specs.Prelude.{◌≡◌, ℕ, Bool, ◌+◌, ◌≤◌, max, List, ◌++◌, Option, ◌⊎◌}
use Rattle.std.specs.List.{All}
use Rattle.row_kit.specs.declared.found.Found.{Found}
use Rattle.row_relax.specs.declared.rows.Rows.{Rows}
use Rattle.range_prop.specs.declared.row_cut.RowCut.{RowCut}
use Rattle.proof_tree.specs.Items.{tree_items, depth}
use Rattle.proof_tree.specs.Views.{View}
use Rattle.row_relax.specs.RowProofs.{RowItem, RowTree}
use Rattle.branch_tree.specs.Searched.{IsFitItem}
use Rattle.branch_tree.specs.laws.Ends.{view_splits}
use Rattle.branch_tree.specs.laws.Handed.{Grows, Tail, closing, parting, head_items, found_items, tail_items}

-- the first of these items were put, and then the taker or its user stopped
pub record Stopped {T O : Type 0} (took broke : T → O → List RowItem → T → O → Type 0) (t : T) (o : O) (all : List RowItem) (t2 : T) (o2 : O) : Type 0 where
  pub items : List RowItem
  pub later : List RowItem
  pub first : all ≡ items ++ later
  pub grows : Grows took took t o items t2 o2 ⊎ Grows took broke t o items t2 o2

-- so of the node and its cuts
pub record HeadStopped {T O : Type 0} (took broke : T → O → List RowItem → T → O → Type 0) (rows : Rows) (floors : Bool) (t : T) (o : O) (t2 : T) (o2 : O) : Type 0 where
  pub cuts : List RowCut
  pub fit : All (IsFitItem rows floors) (head_items cuts)
  pub stopped : Stopped took broke t o (head_items cuts) t2 o2

-- so of a found point
pub record LookStopped {T O : Type 0} (took broke : T → O → List RowItem → T → O → Type 0) (rows : Rows) (floors : Bool) (t : T) (o : O) (t2 : T) (o2 : O) : Type 0 where
  pub found : Option Found
  pub fit : All (IsFitItem rows floors) (found_items found)
  pub stopped : Stopped took broke t o (found_items found) t2 o2

-- how many nodes stand one below another below an end
abbrev pub tail_depth : Tail → ℕ
tail_depth (closing end) = 0
tail_depth (parting pick cert a b) = max (depth a) (depth b)

-- so of the end of a box, with what stands below it
pub record TailStopped {T O : Type 0} (took broke : T → O → List RowItem → T → O → Type 0) (rows : Rows) (floors : Bool) (view : View) (t : T) (o : O) (t2 : T) (o2 : O) : Type 0 where
  pub tail : Tail
  pub fit : All (IsFitItem rows floors) (tail_items tail)
  pub deep : tail_depth tail ≤ view_splits view
  pub stopped : Stopped took broke t o (tail_items tail) t2 o2

-- so of both parts of a split
pub record PartsStopped {T O : Type 0} (took broke : T → O → List RowItem → T → O → Type 0) (rows : Rows) (floors : Bool) (view : View) (t : T) (o : O) (t2 : T) (o2 : O) : Type 0 where
  pub first : RowTree
  pub second : RowTree
  pub fit : All (IsFitItem rows floors) (tree_items first ++ tree_items second)
  pub deep : max (depth first) (depth second) ≤ view_splits view
  pub stopped : Stopped took broke t o (tree_items first ++ tree_items second) t2 o2

-- so of a box
pub record BoxStopped {T O : Type 0} (took broke : T → O → List RowItem → T → O → Type 0) (rows : Rows) (floors : Bool) (view : View) (t : T) (o : O) (t2 : T) (o2 : O) : Type 0 where
  pub tree : RowTree
  pub fit : All (IsFitItem rows floors) (tree_items tree)
  pub deep : depth tree ≤ 1 + view_splits view
  pub stopped : Stopped took broke t o (tree_items tree) t2 o2
