-- Logs that begin their proofs and end behind them. Only clauses of what merges cite it.
use Rattle.std.specs.Prelude.{◌≡◌, ℕ, List, [], length, All, slice_get, slice_index_or, Option, Some, None, IfSome}
use Rattle.stn_edge.specs.Files.{FileMap}
use Rattle.proof_log.specs.LogNames.{log_name}
use Rattle.proof_log.specs.LogReading.{HasRead}
use Rattle.log_nodes.specs.declared.front.Front.{Front}
use Rattle.log_nodes.specs.Reading.{EndsClean}
use Rattle.merged_nodes.specs.declared.sources.Source.{Source}

-- a log begins its proof, and has come down below no split
pub record IsSourceBegun (fronts : List Front) (number : ℕ) (source : Source) : Type 0 where
  pub number_is : source.number ≡ number
  pub above : source.depth ≡ 0
  pub begun : IfSome (slice_get fronts number) (λ front. (told : Option FileMap) (name : List ℕ) → HasRead told name front.version front.head front.limits [] None source.reader)

-- all logs begin their proofs, in this order
pub record AreBegun (fronts : List Front) (order : List ℕ) (sources : List Source) : Type 0 where
  pub as_many : length sources ≡ length order
  pub each : (place : ℕ) (source : Source) → slice_get sources place ≡ Some source → IsSourceBegun fronts (slice_index_or order place 0) source

-- each log ends behind what it has read, and has no text defect
abbrev pub HaveEnded : Option FileMap → List ℕ → List Source → Type 0
HaveEnded told stem sources = All (λ source. EndsClean told (log_name stem source.number) source.reader) sources
