-- What has been read of the file of a log.
use Rattle.std.specs.Prelude.{◌≡◌, ◌+◌, ℕ, false, List, [], ◌∷◌, ◌++◌, length, drop, Option, Some, None, IfSome}
use Rattle.std.specs.List.{All}
use Rattle.stn_edge.specs.Files.{FileMap, file_of}
use Rattle.proof_tree.specs.Form.{MayComeAfter, AreWhole}
use Rattle.proof_tree.specs.Items.{tree_items}
use Rattle.proof_tree.specs.Tree.{tree_of}
use Rattle.log_lines.specs.declared.grammar.Limits.{Limits}
use Rattle.log_lines.specs.declared.line.Line.{Line}
use Rattle.log_lines.specs.Grammar.{Standing}
use Rattle.log_lines.specs.Line.{IsLine}
use Rattle.log_lines.specs.Reader.{IsAhead}
use Rattle.log_lines.specs.TextDefect.{log_text_defect}
use Rattle.proof_log.specs.declared.claim.Claim.{Claim}
use Rattle.proof_log.specs.declared.log.Log.{Log}
use Rattle.proof_log.specs.declared.log_reader.LogReader.{LogReader}
use Rattle.proof_log.specs.declared.log_reader.LogPart.{LogPart}
use Rattle.proof_log.specs.declared.log_reader.LogPart.TheVariants.{Item as ItemPart, Claim as ClaimPart, End as EndPart, Bad as BadPart}
use Rattle.proof_log.specs.Gathered.{HasGathered, IsThere}
use Rattle.row_relax.specs.RowProofs.{RowItem}
use Rattle.proof_log.specs.Behind.{behind}
use Rattle.proof_log.specs.Log.{log_lines, log_text, line_after, lines_text}
use Rattle.proof_log.specs.OneText.{IsOver, IsClaimOver, IsLogOver}
use Rattle.proof_log.specs.Text.{rest_defect}

-- the log behind a head of the file is the text of the lines and what stands in the file from a place on
abbrev pub IsReadTo : Option FileMap → List ℕ → ℕ → ℕ → List Line → ℕ → Type 0
IsReadTo told name version head lines place = IfSome told (λ m. behind version head (file_of m name) ≡ lines_text lines ++ drop place (file_of m name))

-- the first defect of the log behind a head of the file is that of what stands in the file from a place on
abbrev pub IsDefectOfRest : Option FileMap → List ℕ → ℕ → ℕ → Limits → Standing → ℕ → ℕ → Type 0
IsDefectOfRest told name version head limits standing number place =
    IfSome told (λ m. log_text_defect limits (behind version head (file_of m name)) ≡ rest_defect limits standing number (drop place (file_of m name)))

-- a reader under these limits has read the lines of these items and this claim from the front of the log behind a head of the file, where the store tells it
pub record HasRead (told : Option FileMap) (name : List ℕ) (version head : ℕ) (limits : Limits) (items : List RowItem) (claim : Option Claim) (r : LogReader) : Type 0 where
  pub lines : List Line
  pub gathered : HasGathered lines items claim r.gatherer
  pub limited : r.gatherer.limits ≡ limits
  pub read : IsReadTo told name version head lines r.lines.place
  pub left : IsDefectOfRest told name version head limits r.gatherer.grammar (1 + length lines) r.lines.place
  pub ahead : IfSome told (λ m. IsAhead (file_of m name) r.lines.place r.lines.ahead)
  pub going : r.lines.ended ≡ false

-- the bytes are the text of the log of these items and this claim in the lines of a version, and have no text defect
pub record IsClean (limits : Limits) (bytes : List ℕ) (version : ℕ) (items : List RowItem) (claim : Claim) : Type 0 where
  pub text : bytes ≡ log_text version items claim
  pub over : All (IsOver limits.points) items
  pub claim_over : IsClaimOver limits.points claim
  pub lines : All IsLine (log_lines version items claim)
  pub clean : log_text_defect limits bytes ≡ None

-- a part of a log after these items and this claim: the next item of the proof, the claim of a whole proof, or the end of the log; or the first text defect of the log behind the head
abbrev pub IsPartAfter : Option FileMap → List ℕ → ℕ → ℕ → Limits → List RowItem → Option Claim → LogReader → LogPart → Type 0
IsPartAfter told name version head limits items claim r (ItemPart line item) =
    (claim ≡ None) × (line ≡ line_after items) × MayComeAfter items item × IsThere limits item × HasRead told name version head limits (items ++ item ∷ []) None r
IsPartAfter told name version head limits items claim r (ClaimPart line made) =
    (claim ≡ None) × (line ≡ line_after items) × AreWhole items × HasRead told name version head limits items (Some made) r
IsPartAfter told name version head limits items claim r (EndPart own) =
    AreWhole items × ((made : Claim) × (claim ≡ Some made) × IfSome told (λ m. IsClean limits (behind version head (file_of m name)) own items made))
IsPartAfter told name version head limits items claim r (BadPart defect) =
    IfSome told (λ m. log_text_defect limits (behind version head (file_of m name)) ≡ Some (defect.line, defect.kind))

-- the bytes are the text of the log, whose points have as many values as the limits say, and have no text defect
pub record IsRead (limits : Limits) (bytes : List ℕ) (log : Log) : Type 0 where
  pub text : bytes ≡ log_text log.version (tree_items (tree_of log.tree)) log.claim
  pub over : IsLogOver limits.points log.version (tree_of log.tree) log.claim
  pub clean : log_text_defect limits bytes ≡ None
