-- Which programs searches take up, and their logs before the claim.
use Rattle.std.specs.Prelude.{◌+◌, ◌≤◌, ◌≡◌, ◌⊎◌, ℕ, Bool, List, [], ◌∷◌, ◌++◌, flat_map, Option, IfSome}
use Rattle.std.specs.List.{sum_by}
use Rattle.stn_edge.specs.Files.{FileMap}
use Rattle.row_kit.specs.declared.program.Program.{Program}
use Rattle.proof_tree.specs.Items.{tree_items}
use Rattle.row_relax.specs.declared.rows.Rows.{Rows}
use Rattle.row_relax.specs.RowProofs.{RowTree}
use Rattle.branch_tree.specs.Searched.{IsWritable, spared}
use Rattle.branch_tree.specs.Splits.{splits_of}
use Rattle.log_lines.specs.declared.line.Line.TheVariants.{End}
use Rattle.proof_log.specs.declared.claim.Claim.{Claim}
use Rattle.proof_log.specs.Log.{claim_lines, item_lines, lines_text}
use Rattle.proof_log.specs.Writer.{Writing, IsWhole, Took}
use Rattle.plan_told.specs.Proofs.{bytes_in}

-- a writer for the file of this name took a head, and then the items of a proof that may be written, in which at most so many splits stand
-- one below another, with floors only where splits may have them, and of which this is so
pub record IsLogged (Is : RowTree → Type 0) (most : ℕ) (rows : Rows) (floors : Bool) (head name : List ℕ) (at : Writing) : Type 0 where
  pub tree : RowTree
  pub is : Is tree
  pub writable : IsWritable most rows floors tree
  pub named : at.name ≡ name
  pub first : Writing
  pub header : IsWhole first head
  pub took : Took first at (lines_text (flat_map item_lines (tree_items tree)))

-- bytes are a first part of a head and the lines of a proof that may be written, with floors only where splits may have them, of a claim
-- and of the end
pub record IsBegun (most : ℕ) (rows : Rows) (floors : Bool) (head bytes : List ℕ) : Type 0 where
  pub tree : RowTree
  pub claim : Claim
  pub writable : IsWritable most rows floors tree
  pub rest : List ℕ
  pub text : bytes ++ rest ≡ head ++ lines_text (flat_map item_lines (tree_items tree) ++ (claim_lines claim ++ End ∷ []))

-- what an attempt leaves that did not end: the files are as they were, or the file of this name is a log with this head that was begun
abbrev pub LeavesBegun : ℕ → Rows → Bool → List ℕ → List ℕ → Option FileMap → Option FileMap → Type 0
LeavesBegun most rows floors head name old new = (new ≡ old) ⊎ IfSome (bytes_in name new) (IsBegun most rows floors head)

-- a store as a writer for the file of this name finds it, of which these calls tell
abbrev pub stored : {S : Type 0} → (S → Option FileMap) → (S → ℕ) → (S → List ℕ → Bool) → (S → List ℕ → Bool) → List ℕ → S → Writing
stored files reads may_read may_write name store = record {
  name = name;
  held = [];
  files = files store;
  reads = reads store;
  may_read = may_read store;
  may_write = may_write store;
}

-- the slots of a program can't be split more often than splits may stand one below another, where one that lacks 0 or holds 0 alone counts
-- once more
abbrev pub HasFewSplits : ℕ → Program → Type 0
HasFewSplits most program = sum_by splits_of program.root + sum_by spared program.root ≤ most
