-- What the end of a line leads a reader of a log to.
use Rattle.std.specs.Prelude.{◌≡◌, ◌+◌, ◌<◌, ◌≤◌, ⊤, ℕ, List, [], ◌∷◌, ◌++◌, length, Option, Some, None}
use Rattle.log_lines.specs.declared.grammar.Limits.{Limits}
use Rattle.log_lines.specs.declared.grammar.Place.TheVariants.{Done}
use Rattle.log_lines.specs.declared.line.Line.{Line}
use Rattle.log_lines.specs.declared.reader.LineEnd.{LineEnd}
use Rattle.log_lines.specs.declared.reader.LineEnd.TheVariants.{Whole, Cut, Long, Nothing}
use Rattle.log_lines.specs.Grammar.{Standing}
use Rattle.log_lines.specs.Line.{line_text}
use Rattle.log_lines.specs.Reader.{HasNoFeed}
use Rattle.proof_log.specs.declared.claim.Claim.{Claim}
use Rattle.proof_log.specs.declared.gatherer.Gatherer.{Gatherer}
use Rattle.proof_log.specs.declared.gatherer.Gathered.{Gathered}
use Rattle.proof_log.specs.declared.gatherer.Gathered.TheVariants.{On, Item as ItemGathered, Claim as ClaimGathered}
use Rattle.proof_log.specs.declared.log_reader.LogPart.{LogPart}
use Rattle.proof_log.specs.declared.log_reader.LogPart.TheVariants.{Item as ItemPart, Claim as ClaimPart, End as EndPart, Bad as BadPart}
use Rattle.proof_log.specs.Gathered.{HasGathered, HasMade}
use Rattle.row_relax.specs.RowProofs.{RowItem}
use Rattle.proof_log.specs.Text.{rest_defect, EndsAs}

-- the bytes of a line as a reader gives them
abbrev pub AreLineBytes : List ℕ → LineEnd → Type 0
AreLineBytes part Whole = (length part ≤ 200) × HasNoFeed part
AreLineBytes part Cut = (0 < length part) × (length part ≤ 200) × HasNoFeed part
AreLineBytes part Long = ⊤
AreLineBytes part Nothing = ⊤

-- the first defect of the bytes that are left, after what a line has made whole: this one; none, where the log and its bytes have ended; or that of the bytes after the line
abbrev pub IsStepped : Limits → Standing → ℕ → List ℕ → LineEnd → Standing → Option LogPart → Type 0
IsStepped limits old number part end new (Some (BadPart defect)) =
    (rest after : List ℕ) → EndsAs rest part end after → rest_defect limits old number rest ≡ Some (defect.line, defect.kind)
IsStepped limits old number part end new (Some (EndPart version)) =
    (rest after : List ℕ) → EndsAs rest part end after → (rest_defect limits old number rest ≡ None) × (rest ≡ [])
IsStepped limits old number part end new _ =
    (rest after : List ℕ) → EndsAs rest part end after → rest_defect limits old number rest ≡ rest_defect limits new (number + 1) after

-- a whole line of this text has made something whole, or nothing
abbrev pub LineMakes : List ℕ → LineEnd → Gatherer → Gatherer → Gathered → Type 0
LineMakes part end old new gathered =
    (end ≡ Whole) × ((line : Line) × (line_text line ≡ part) × ((lines : List Line) (items : List RowItem) (claim : Option Claim) → HasGathered lines items claim old → HasMade (lines ++ line ∷ []) items claim new gathered))

-- what a line has made whole: nothing, an item or the claim; or the log has ended and all stands as before
abbrev pub HasStepped : List ℕ → LineEnd → Gatherer → Gatherer → Option LogPart → Type 0
HasStepped part end old new None = LineMakes part end old new On
HasStepped part end old new (Some (ItemPart line item)) = LineMakes part end old new (ItemGathered line item)
HasStepped part end old new (Some (ClaimPart line claim)) = LineMakes part end old new (ClaimGathered line claim)
HasStepped part end old new (Some (EndPart version)) = (new ≡ old) × (old.grammar.place ≡ Done) × (version ≡ old.grammar.version)
HasStepped part end old new (Some (BadPart defect)) = ⊤
