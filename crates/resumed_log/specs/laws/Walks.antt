-- A log that is walked. Only clauses of private functions cite it.
use Rattle.std.specs.Prelude.{◌≡◌, ◌≢◌, ◌+◌, ℕ, Bool, IsTrue, ⊤, List, [], ◌∷◌, take, Option, None, Some}
use Rattle.stn_edge.specs.Files.{FileMap}
use Rattle.stn_edge.specs.declared.shelf.Shelf.{Ghosts}
use Rattle.proof_tree.specs.Views.{KeepsViews, View, present}
use Rattle.proof_log.specs.declared.log_reader.LogReader.{LogReader}
use Rattle.row_relax.specs.declared.rows.Rows.{Rows}
use Rattle.row_relax.specs.View.{Fits}
use Rattle.branch_tree.specs.declared.going_on.GoingOn.{GoingOn}
use Rattle.branch_tree.specs.laws.Going.{CanGoOn}
use Rattle.log_nodes.specs.declared.pair.Pair.{Pair}
use Rattle.log_nodes.specs.Reading.{IsReading}
use Rattle.log_nodes.specs.laws.Seen.{StandsBelow}
use Rattle.open_splits.specs.declared.splits.OpenSplit.{OpenSplit}
use Rattle.open_splits.specs.laws.Opened.{HasOpenedBelow}
use Rattle.resumed_log.specs.declared.new_log.Out.{Out}
use Rattle.resumed_log.specs.laws.Beside.{out_name}

-- a log of this name is read on, item by item, and a search over these rows, in which at most so many splits stand one below another, can go on
pub record GoesOnWalking (told : Option FileMap) (name : List ℕ) (reader : LogReader) (most : ℕ) (rows : Rows) (going : GoingOn) : Type 0 where
  pub reading : IsReading told name reader
  pub can : CanGoOn most rows going

-- the log of a pair may be read and is walked on, over a view that fits the rows
pub record CanWalk {F : Type 0} (S : Ghosts F) (files : F) (pair : Pair) (reader : LogReader) (going : GoingOn) (view : View) : Type 0 where
  pub allowed : IsTrue (S.may_read files pair.log.now)
  pub walking : GoesOnWalking (S.files files) pair.log.now reader pair.most pair.rows.now going
  pub fits : Fits pair.rows.now.program view

-- one file may be read while another is written
pub record CanWriteBeside (reads writes : List ℕ → Bool) (log out : List ℕ) : Type 0 where
  pub may_read : IsTrue (reads log)
  pub may_write : IsTrue (writes out)
  pub apart : out ≢ log

-- the log of a pair is walked on, over a view that fits the rows, and may be read while another is written
pub record CanRewrite {F : Type 0} (S : Ghosts F) (files : F) (pair : Pair) (reader : LogReader) (going : GoingOn) (out : Out) (view : View) : Type 0 where
  pub beside : CanWriteBeside (S.may_read files) (S.may_write files) pair.log.now (out_name out)
  pub walking : GoesOnWalking (S.files files) pair.log.now reader pair.most pair.rows.now going
  pub fits : Fits pair.rows.now.program view

-- a node below so many splits was passed over views: an end, and the area stands below them still, or a split was opened
abbrev pub HasPassed : Pair → ℕ → List View → List View → Option (OpenSplit ⊤ ⊤) → Type 0
HasPassed pair depth old new None = StandsBelow pair.rows.now.program old new
HasPassed pair depth old new (Some split) = HasOpenedBelow pair.rows.now.program pair.most depth old new split × Fits pair.rows.now.program (present new)

-- a walk goes on behind a node: below the split that was opened there, else in the right part of the innermost open split; where none is
-- open, nowhere
abbrev pub HasNext : Option (OpenSplit ⊤ ⊤) → List (OpenSplit ⊤ ⊤) → List (OpenSplit ⊤ ⊤) → List View → List View → Option ℕ → Type 0
HasNext (Some split) before after old new (Some below) = (below ≡ split.below) × ((after ≡ split ∷ before) × (new ≡ old))
HasNext None before after old new (Some below) = (split : OpenSplit ⊤ ⊤) × ((below ≡ split.below) × ((before ≡ split ∷ after) × KeepsViews (take (split.mark + 1) old) new))
HasNext (Some split) before after old new None = ⊥
HasNext None before after old new None = (before ≡ []) × (new ≡ old)
