-- The walk that merges the proofs of several logs. Only clauses of what merges cite it.
use Rattle.std.specs.Prelude.{◌≡◌, ◌<◌, ℕ, ℤ, List, length, get_or, Option}
use Rattle.stn_edge.specs.Files.{FileMap, OthersStay}
use Rattle.row_kit.specs.declared.domain.Domain.{Domain}
use Rattle.proof_log.specs.declared.writer.LogWriter.{LogWriter}
use Rattle.proof_tree.specs.declared.capped.Capped.{Capped}
use Rattle.proof_tree.specs.Cap.{floor_cap, greater}
use Rattle.proof_tree.specs.Views.{View, present}
use Rattle.row_relax.specs.declared.rows.Rows.{Rows}
use Rattle.row_relax.specs.View.{Fits}
use Rattle.log_nodes.specs.declared.node.Node.{Node}
use Rattle.log_nodes.specs.laws.Seen.{seen}
use Rattle.open_splits.specs.declared.splits.OpenSplit.{OpenSplit}
use Rattle.open_splits.specs.declared.way.Met.{Met}
use Rattle.open_splits.specs.laws.Behind.{Course, HasMet, HasSplit, Reaches}
use Rattle.log_parts.specs.laws.Copying.{name_of}
use Rattle.merged_nodes.specs.declared.sources.Merging.{Merging}
use Rattle.merged_nodes.specs.declared.sources.Source.{Source}
use Rattle.merged_nodes.specs.laws.Looked.{AreReading}
use Rattle.merge_walk.specs.laws.Walked.{HasMerged, HasMergedSplit}

-- the same logs at the same places, whatever was read of them
pub record AreSame (before after : List Source) : Type 0 where
  pub as_many : length after ≡ length before
  pub each : (place : ℕ) (d : Source) → place < length before → (get_or after place d).number ≡ (get_or before place d).number

-- the walk can go on: the same logs are read on at the same places, and the area fits the rows
pub record GoesOnMerging (merging : Merging) (told : Option FileMap) (before after : List Source) (marks : List (List Domain)) : Type 0 where
  pub same : AreSame before after
  pub reading : AreReading told merging.stem.now after
  pub fits : Fits merging.rows.now.program (seen marks)

-- how far logs were read and a proof was written
pub record Reached : Type 0 where
  pub told : Option FileMap
  pub sources : List Source
  pub writer : LogWriter

-- from one point of a walk to another the proofs of all logs that came down were read, and the one that is merged of them was written to a
-- log of this name; no other file changed
abbrev pub Merges : Rows → Option ℤ → List ℕ → List ℕ → ℕ → View → Reached → Reaches Reached Capped
Merges rows best stem name depth view here later cap =
    OthersStay name here.told later.told × HasMerged rows best view here.told later.told stem depth here.sources later.sources here.writer later.writer cap

-- the walk: the cap of a split is the greatest of its floor's and of those of its parts
abbrev pub merging_walk : Rows → Option ℤ → List ℕ → List ℕ → Course ℕ Reached (Option ℤ) Capped
merging_walk rows best stem name = record {
  passes = Merges rows best stem name;
  part_at = λ split left. split.below;
  sums = λ floor left right all. all ≡ greater (floor_cap floor) (greater left right);
}

-- a split of a node was written, and nothing was read
abbrev pub HasOpenedSplit : Rows → Option ℤ → Node → List View → List View → Option FileMap → Option FileMap → List ℕ → ℕ → List Source → LogWriter → LogWriter → OpenSplit (Option ℤ) Capped → Type 0
HasOpenedSplit rows best node views now old new stem depth sources writer later split =
    HasSplit rows.program (merging_walk rows best stem (name_of writer)) 36865 depth views now (record { told = new; sources = sources; writer = later }) split
    (λ last cap. OthersStay (name_of writer) old last.told × HasMergedSplit rows best (present views) node old last.told stem depth sources last.sources writer last.writer cap)

-- the nodes of all logs that came down were read, and the one that is merged of them was written: an end, or a split
abbrev pub HasWritten : Rows → Option ℤ → List View → List View → Option FileMap → Option FileMap → List ℕ → ℕ → List Source → List Source → LogWriter → LogWriter → Met (Option ℤ) Capped → Type 0
HasWritten rows best views now old new stem depth before after writer later =
    HasMet rows.program (merging_walk rows best stem (name_of writer)) 36865 depth depth views now (record { told = old; sources = before; writer = writer }) (record { told = new; sources = after; writer = later })
