-- What was written of a merged proof, and read of the logs. Only clauses of what merges cite it.
use Rattle.std.specs.Prelude.{◌≡◌, ◌≤◌, ◌<◌, ℕ, ℤ, List, ◌++◌, length, slice_get, slice_index_or, Option, Some, None, IsSomeAnd, IsTrue}
use Rattle.stn_edge.specs.Files.{FileMap}
use Rattle.stn_edge.specs.declared.shelf.Shelf.{Ghosts}
use Rattle.row_kit.specs.declared.domain.Domain.{Domain}
use Rattle.dual_bound.specs.declared.cert.Cert.{Cert}
use Rattle.proof_log.specs.declared.writer.LogWriter.{LogWriter}
use Rattle.proof_log.specs.LogNames.{log_name}
use Rattle.proof_tree.specs.declared.capped.Capped.{Capped}
use Rattle.proof_tree.specs.Cap.{greater}
use Rattle.proof_tree.specs.Items.{tree_items}
use Rattle.proof_tree.specs.Tree.{after_cuts, cap_if, split, tree_cap}
use Rattle.proof_tree.specs.Views.{View}
use Rattle.row_relax.specs.declared.pick.RowPick.{RowPick}
use Rattle.row_relax.specs.declared.rows.Rows.{Rows}
use Rattle.row_relax.specs.Choices.{steps_of}
use Rattle.row_relax.specs.RowProofs.{RowTree}
use Rattle.row_relax.specs.View.{Fits}
use Rattle.log_nodes.specs.declared.node.Node.{Node}
use Rattle.log_nodes.specs.declared.node.Ending.TheVariants.{Split}
use Rattle.log_nodes.specs.Reading.{ReadsOn}
use Rattle.log_nodes.specs.laws.Nodes.{node_items}
use Rattle.merged_nodes.specs.declared.sources.Merging.{Merging}
use Rattle.merged_nodes.specs.declared.sources.Source.{Source}
use Rattle.merged_nodes.specs.Merged.{IsMerged}
use Rattle.log_nodes.specs.laws.Seen.{seen}
use Rattle.log_parts.specs.laws.Copying.{name_of}
use Rattle.merged_nodes.specs.laws.Looked.{AreApart, AreReading, MayReadAll}
use Rattle.merged_nodes.specs.laws.Puts.{PutsItems}

-- what a walk needs to go on below so many splits: all logs may be read and are being read, the new one may be written and is none of
-- them, the area fits the rows, and a split has room below it
pub record CanMerge {F : Type 0} (S : Ghosts F) (merging : Merging) (files : F) (sources : List Source) (writer : LogWriter) (marks : List (List Domain)) (splits : ℕ) : Type 0 where
  pub may_read : MayReadAll (S.may_read files) merging.stem.now sources
  pub may_write : IsTrue (S.may_write files (name_of writer))
  pub apart : AreApart (name_of writer) merging.stem.now sources
  pub reading : AreReading (S.files files) merging.stem.now sources
  pub fits : Fits merging.rows.now.program (seen marks)
  pub depth : splits < 36865

-- a log that came down below so many splits has read this proof, which stands there; one that did not has read nothing
abbrev pub HasReadTree : Option FileMap → List ℕ → ℕ → Source → Source → Option RowTree → Type 0
HasReadTree told stem depth before after None = (before.depth < depth) × (after ≡ before)
HasReadTree told stem depth before after (Some tree) =
    (depth ≤ before.depth) × (depth ≤ after.depth) × (after.number ≡ before.number) × ReadsOn told (log_name stem before.number) before.reader (tree_items tree) after.reader

-- the same of all logs
pub record HaveReadTrees (told : Option FileMap) (stem : List ℕ) (depth : ℕ) (before after : List Source) (here : List (Option RowTree)) : Type 0 where
  pub as_many : length after ≡ length before
  pub all : length here ≡ length before
  pub each : (place : ℕ) (one later : Source) → slice_get before place ≡ Some one → slice_get after place ≡ Some later → HasReadTree told stem depth one later (slice_index_or here place None)

-- the proofs of all logs that came down were read, and the one that is merged of them was written; this is its cap
pub record HasMerged (rows : Rows) (best : Option ℤ) (view : View) (old new : Option FileMap) (stem : List ℕ) (depth : ℕ) (before after : List Source) (writer later : LogWriter) (cap : Capped) : Type 0 where
  pub here : List (Option RowTree)
  pub tree : RowTree
  pub read : HaveReadTrees old stem depth before after here
  pub merged : IsMerged (steps_of rows) best view here tree
  pub cap_is : cap ≡ tree_cap (steps_of rows) view tree
  pub put : PutsItems writer old later new (tree_items tree)

-- the proofs of both parts of a split of all logs that went down there
abbrev pub HasReadParts : Option FileMap → List ℕ → ℕ → Source → Source → Option RowTree → Option RowTree → Type 0
HasReadParts told stem depth before after None second = (before.depth ≤ depth) × (after ≡ before) × (second ≡ None)
HasReadParts told stem depth before after (Some first) None = ⊥
HasReadParts told stem depth before after (Some first) (Some second) =
    (depth < before.depth) × (depth < after.depth) × (after.number ≡ before.number) × ReadsOn told (log_name stem before.number) before.reader (tree_items first ++ tree_items second) after.reader

-- the same of all logs
pub record HaveReadParts (told : Option FileMap) (stem : List ℕ) (depth : ℕ) (before after : List Source) (firsts seconds : List (Option RowTree)) : Type 0 where
  pub as_many : length after ≡ length before
  pub all : length firsts ≡ length before
  pub all_seconds : length seconds ≡ length before
  pub each : (place : ℕ) (one later : Source) → slice_get before place ≡ Some one → slice_get after place ≡ Some later → HasReadParts told stem depth one later (slice_index_or firsts place None) (slice_index_or seconds place None)

-- both parts of a split of a view were read of all logs that went down there, and what is merged of them was written; this is the greater of
-- their caps
pub record HasMergedParts (rows : Rows) (best : Option ℤ) (view : View) (pick : RowPick) (old new : Option FileMap) (stem : List ℕ) (depth : ℕ) (before after : List Source) (writer later : LogWriter) (cap : Capped) : Type 0 where
  pub firsts : List (Option RowTree)
  pub seconds : List (Option RowTree)
  pub first : RowTree
  pub second : RowTree
  pub read : HaveReadParts old stem depth before after firsts seconds
  pub left : IsSomeAnd ((steps_of rows).left view pick) (λ x. IsMerged (steps_of rows) best x firsts first)
  pub right : IsSomeAnd ((steps_of rows).right view pick) (λ y. IsMerged (steps_of rows) best y seconds second)
  pub cap_is : cap ≡ greater (cap_if ((steps_of rows).left view pick) (λ x. tree_cap (steps_of rows) x first)) (cap_if ((steps_of rows).right view pick) (λ y. tree_cap (steps_of rows) y second))
  pub put : PutsItems writer old later new (tree_items first ++ tree_items second)

-- a node that splits a view was written, and behind it what is merged of the parts of all logs that went down there; this is its cap
pub record HasMergedSplit (rows : Rows) (best : Option ℤ) (view : View) (node : Node) (old new : Option FileMap) (stem : List ℕ) (depth : ℕ) (before after : List Source) (writer later : LogWriter) (cap : Capped) : Type 0 where
  pub pick : RowPick
  pub cert : Cert
  pub splits : node.end ≡ Split pick cert
  pub firsts : List (Option RowTree)
  pub seconds : List (Option RowTree)
  pub first : RowTree
  pub second : RowTree
  pub read : HaveReadParts old stem depth before after firsts seconds
  pub merged : IsSomeAnd (after_cuts (steps_of rows) view node.cuts)
      (λ w. IsSomeAnd ((steps_of rows).left ((steps_of rows).trim w pick cert) pick) (λ x. IsMerged (steps_of rows) best x firsts first
      × IsSomeAnd ((steps_of rows).right ((steps_of rows).trim w pick cert) pick) (λ y. IsMerged (steps_of rows) best y seconds second)))
  pub cap_is : cap ≡ tree_cap (steps_of rows) view (split node.cuts node.found pick cert first second)
  pub put : PutsItems writer old later new (node_items node ++ (tree_items first ++ tree_items second))
