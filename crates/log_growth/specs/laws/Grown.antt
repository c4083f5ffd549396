-- How a proof has grown that was read beside another. Only clauses of private functions cite it.
use Rattle.std.specs.Prelude.{◌≡◌, ℕ, ℤ, ◌+◌, IsTrue, List, map, ◌++◌, Option, Some, IsSomeAnd}
use Rattle.stn_edge.specs.Files.{FileMap}
use Rattle.stn_edge.specs.declared.shelf.Shelf.{Ghosts}
use Rattle.proof_tree.specs.Items.{tree_items}
use Rattle.proof_tree.specs.Nodes.{counted}
use Rattle.proof_tree.specs.Tree.{after_cuts}
use Rattle.proof_tree.specs.Views.{View}
use Rattle.row_relax.specs.declared.pick.RowPick.{RowPick}
use Rattle.row_relax.specs.declared.rows.Rows.{Rows}
use Rattle.row_relax.specs.RowProofs.{RowItem, RowTree}
use Rattle.row_relax.specs.Steps.{row_steps}
use Rattle.row_relax.specs.View.{Fits, view_of}
use Rattle.row_kit.specs.declared.domain.Domain.{Domain}
use Rattle.branch_tree.specs.Deep.{is_deep}
use Rattle.log_growth.specs.declared.counts.Growth.{Growth}
use Rattle.log_growth.specs.declared.way.Readers.{Readers}
use Rattle.log_nodes.specs.declared.pair.Share.{Share}
use Rattle.log_nodes.specs.declared.node.Node.{Node}
use Rattle.log_growth.specs.Growth.{GoesOn, IsGrowth, count_if, deep_ends, floors_above, open_ends}
use Rattle.log_nodes.specs.OpenEnds.{in_share}
use Rattle.log_nodes.specs.Reading.{IsReading, ReadsOn}
use Rattle.log_nodes.specs.laws.Nodes.{Below, below_items, tree_with}

-- two proofs were read, of which the second goes on from the first
pub record HasGrown (most : ℕ) (rows : Rows) (profit : Option ℤ) (share : Option Share) (depth n : ℕ) (view : View) (reads reads_out : List RowItem → Type 0) (growth : Growth) : Type 0 where
  pub tree : RowTree
  pub grown : RowTree
  pub read : reads (tree_items tree)
  pub read_out : reads_out (tree_items grown)
  pub is : IsGrowth most rows profit share depth n view tree grown growth

-- what stands below two nodes was read, over a view after the cuts of the first, and the proof of the second goes on from that of the first
pub record HasGrownBelow (most : ℕ) (rows : Rows) (profit : Option ℤ) (share : Option Share) (depth n : ℕ) (view : View) (node other : Node) (reads reads_out : List RowItem → Type 0) (growth : Growth) : Type 0 where
  pub below : Below node.end
  pub below_out : Below other.end
  pub read : reads (below_items node.end below)
  pub read_out : reads_out (below_items other.end below_out)
  pub is : (v : View) → after_cuts (row_steps rows.program) v node.cuts ≡ Some view
      → IsGrowth most rows profit share depth n v (tree_with node.cuts node.found node.end below) (tree_with other.cuts other.found other.end below_out) growth

-- so of the nodes themselves, over a view before the cuts of the first
pub record HasGrownNode (most : ℕ) (rows : Rows) (profit : Option ℤ) (share : Option Share) (depth n : ℕ) (view : View) (node other : Node) (reads reads_out : List RowItem → Type 0) (growth : Growth) : Type 0 where
  pub cut : View
  pub there : after_cuts (row_steps rows.program) view node.cuts ≡ Some cut
  pub below : HasGrownBelow most rows profit share depth n cut node other reads reads_out growth

-- both parts of a split of a view were read in both logs, and those of the second go on from those of the first
pub record HasGrownParts (most : ℕ) (rows : Rows) (profit : Option ℤ) (share : Option Share) (depth n : ℕ) (view : View) (pick : RowPick) (reads reads_out : List RowItem → Type 0) (growth : Growth) : Type 0 where
  pub first : RowTree
  pub second : RowTree
  pub first_out : RowTree
  pub second_out : RowTree
  pub read : reads (tree_items first ++ tree_items second)
  pub read_out : reads_out (tree_items first_out ++ tree_items second_out)
  pub goes_on : IsSomeAnd ((row_steps rows.program).left view pick) (λ x. GoesOn (row_steps rows.program) profit (in_share share) n x first first_out
      × IsSomeAnd ((row_steps rows.program).right view pick) (λ y. GoesOn (row_steps rows.program) profit (in_share share) (n + open_ends (row_steps rows.program) profit x first) y second second_out))
  pub ends : growth.ends ≡ count_if ((row_steps rows.program).left view pick) (λ x. open_ends (row_steps rows.program) profit x first) + count_if ((row_steps rows.program).right view pick) (λ y. open_ends (row_steps rows.program) profit y second)
  pub deep : growth.deep ≡ count_if ((row_steps rows.program).left view pick) (λ x. deep_ends (row_steps rows.program) profit (is_deep most) (depth + 1) x first)
      + count_if ((row_steps rows.program).right view pick) (λ y. deep_ends (row_steps rows.program) profit (is_deep most) (depth + 1) y second)
  pub floors : growth.floors ≡ count_if ((row_steps rows.program).left view pick) (λ x. floors_above (row_steps rows.program) profit x first) + count_if ((row_steps rows.program).right view pick) (λ y. floors_above (row_steps rows.program) profit y second)
  pub before : growth.before ≡ counted first + counted second
  pub after : growth.after ≡ counted first_out + counted second_out

-- two logs may be read on: a reader of each reads its proof, and a view fits the rows
pub record CanGrow {F : Type 0} (S : Ghosts F) (files : F) (log out : List ℕ) (readers : Readers) (rows : Rows) (view : View) : Type 0 where
  pub log_allowed : IsTrue (S.may_read files log)
  pub out_allowed : IsTrue (S.may_read files out)
  pub log_reading : IsReading (S.files files) log readers.log
  pub out_reading : IsReading (S.files files) out readers.out
  pub fits : Fits rows.program view

-- both logs were read on, and of what was read this is so; their readers read the proofs still, and the area is as before
pub record HaveReadOn (IsSo : (List RowItem → Type 0) → (List RowItem → Type 0) → Growth → Type 0) (told : Option FileMap) (log out : List ℕ) (before after : Readers) (area area2 : List (List Domain)) (growth : Growth) : Type 0 where
  pub is_so : IsSo (λ items. ReadsOn told log before.log items after.log) (λ items. ReadsOn told out before.out items after.out) growth
  pub log_reading : IsReading told log after.log
  pub out_reading : IsReading told out after.out
  pub as_before : map view_of area2 ≡ map view_of area
