-- What a reader of a log reads on.
use Rattle.std.specs.Prelude.{ℕ, List, ◌++◌, Option, None, IfSome}
use Rattle.stn_edge.specs.Files.{FileMap, file_of}
use Rattle.log_lines.specs.declared.grammar.Limits.{Limits}
use Rattle.proof_log.specs.declared.log_reader.LogReader.{LogReader}
use Rattle.proof_log.specs.declared.claim.Claim.{Claim}
use Rattle.proof_log.specs.Behind.{behind}
use Rattle.proof_log.specs.LogReading.{HasRead, IsClean}
use Rattle.row_relax.specs.RowProofs.{RowItem}

-- a reader of the file of this name reads items of a proof: it has read some of them, and no claim
abbrev pub IsReading : Option FileMap → List ℕ → LogReader → Type 0
IsReading told name reader = (version : ℕ) × ((head : ℕ) × ((limits : Limits) × ((items : List RowItem) × HasRead told name version head limits items None reader)))

-- whatever items the first reader has read, the second has read these besides
abbrev pub ReadsOn : Option FileMap → List ℕ → LogReader → List RowItem → LogReader → Type 0
ReadsOn told name before added after =
    (version head : ℕ) (limits : Limits) (items : List RowItem) → HasRead told name version head limits items None before → HasRead told name version head limits (items ++ added) None after

-- whatever items a reader has read, the log ends behind them with some claim, and has no text defect
abbrev pub EndsClean : Option FileMap → List ℕ → LogReader → Type 0
EndsClean told name reader =
    (version head : ℕ) (limits : Limits) (items : List RowItem) → HasRead told name version head limits items None reader
    → IfSome told (λ m. (own : ℕ) × ((claim : Claim) × IsClean limits (behind version head (file_of m name)) own items claim))
