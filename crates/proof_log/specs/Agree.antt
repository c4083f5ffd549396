-- How a group and the items stand where the lines so far stand.
use Rattle.std.specs.Prelude.{◌≡◌, ◌⊎◌, ◌+◌, ◌<◌, ⊤, ℕ, Bool, true, false, List, map, length, Option, Some, None, is_some}
use Rattle.proof_tree.specs.declared.walk.Expected.{Expected}
use Rattle.proof_tree.specs.declared.walk.Expected.TheVariants.{Node as ExpectNode, Inside as ExpectInside, End as ExpectEnd}
use Rattle.proof_tree.specs.Walk.{Opened, Stage, Outcome, going, ended, undefined, misplaced}
use Rattle.row_relax.specs.declared.pick.RowPick.{RowPick}
use Rattle.proof_log.specs.declared.claim.Claim.{Claim}
use Rattle.log_lines.specs.declared.line.Line.{Line}
use Rattle.log_lines.specs.declared.line.Line.TheVariants.{Header as HeaderLine, End as EndLine}
use Rattle.log_lines.specs.declared.grammar.Limits.{Limits}
use Rattle.log_lines.specs.declared.grammar.Place.{Place}
use Rattle.log_lines.specs.declared.grammar.Place.TheVariants.{Header, Node as AtNode, Inside, Ending, Floored, Values as AtValues, Mults as AtMults, Claim as AtClaim, End, Done}
use Rattle.log_lines.specs.Grammar.{Standing}
use Rattle.proof_log.specs.declared.group.ValueHead.{ValueHead}
use Rattle.proof_log.specs.declared.group.ValueHead.TheVariants.{Found, Optimal, Between}
use Rattle.proof_log.specs.declared.group.MultHead.{MultHead}
use Rattle.proof_log.specs.declared.group.MultHead.TheVariants.{Dual, Pending, Split}
use Rattle.proof_log.specs.declared.group.Group.{Group}
use Rattle.proof_log.specs.declared.group.Group.TheVariants.{Nothing, Floor, Values, Mults}

-- whether values belong to a claim
abbrev pub is_claim : ValueHead → Bool
is_claim (Found value) = false
is_claim (Optimal profit) = true
is_claim (Between profit most) = true

-- whether multipliers stand beside a split
abbrev pub is_split : MultHead → Bool
is_split (Dual scale) = false
is_split (Pending scale) = false
is_split (Split pick scale) = true

-- the slot of a split is there
abbrev pub IsHeadIn : Limits → MultHead → Type 0
IsHeadIn limits (Dual scale) = ⊤
IsHeadIn limits (Pending scale) = ⊤
IsHeadIn limits (Split pick scale) = pick.slot < limits.slots

-- the least slot above the last one
abbrev pub least_after : Option ℕ → ℕ
least_after None = 0
least_after (Some last) = last + 1

-- the group that is open at a place
abbrev pub GroupAgrees : Limits → Place → Group → Type 0
GroupAgrees limits Header Nothing = ⊤
GroupAgrees limits AtNode Nothing = ⊤
GroupAgrees limits Inside Nothing = ⊤
GroupAgrees limits Ending Nothing = ⊤
GroupAgrees limits Floored (Floor profit) = ⊤
GroupAgrees limits (AtValues left above claim) (Values head remaining point) =
    (0 < left) × (remaining ≡ left) × (length point ≡ least_after above) × (is_claim head ≡ claim)
GroupAgrees limits (AtMults left above split) (Mults head remaining mults) =
    (0 < left) × (remaining ≡ left) × (is_split head ≡ split) × IsHeadIn limits head
GroupAgrees limits AtClaim Nothing = ⊤
GroupAgrees limits End Nothing = ⊤
GroupAgrees limits Done Nothing = ⊤
GroupAgrees limits _ _ = ⊥

-- which items may come at a place; from the claim on there are none
abbrev pub PlaceExpects : Place → Expected → Type 0
PlaceExpects Header expected = expected ≡ ExpectNode
PlaceExpects AtNode expected = expected ≡ ExpectNode
PlaceExpects Inside expected = expected ≡ ExpectInside
PlaceExpects Ending expected = expected ≡ ExpectEnd
PlaceExpects Floored expected = (expected ≡ ExpectInside) ⊎ (expected ≡ ExpectEnd)
PlaceExpects (AtValues left above claim) expected = (claim ≡ false) × (expected ≡ ExpectInside)
PlaceExpects (AtMults left above split) expected = (expected ≡ ExpectInside) ⊎ (expected ≡ ExpectEnd)
PlaceExpects AtClaim expected = ⊥
PlaceExpects End expected = ⊥
PlaceExpects Done expected = ⊥

-- the places after the last node
abbrev pub IsPastProof : Place → Type 0
IsPastProof (AtValues left above claim) = claim ≡ true
IsPastProof AtClaim = ⊤
IsPastProof End = ⊤
IsPastProof Done = ⊤
IsPastProof _ = ⊥

-- of each open split whether its left part has ended
abbrev pub lefts : List (Opened RowPick) → List Bool
lefts splits = map (λ split. is_some split.left) splits

-- where more items have to come they stand where the lines do
pub record StageAgrees (standing : Standing) (stage : Stage RowPick) : Type 0 where
  pub expects : PlaceExpects standing.place stage.expected
  pub splits : lefts stage.splits ≡ standing.sides

-- a claim has been made whole where the end line may come, and after it
abbrev pub ClaimAgrees : Place → Option Claim → Type 0
ClaimAgrees End (Some claim) = ⊤
ClaimAgrees End None = ⊥
ClaimAgrees Done (Some claim) = ⊤
ClaimAgrees Done None = ⊥
ClaimAgrees _ (Some claim) = ⊥
ClaimAgrees _ None = ⊤

-- the items stand where the lines do: more have to come, or they are whole and the claim comes
abbrev pub FormAgrees : Standing → Outcome RowPick → Type 0
FormAgrees standing (going stage) = StageAgrees standing stage
FormAgrees standing (ended proof_cap) = IsPastProof standing.place
FormAgrees standing undefined = ⊥
FormAgrees standing misplaced = ⊥

-- a line is neither the header nor the end line
abbrev pub IsBody : Line → Type 0
IsBody (HeaderLine version) = ⊥
IsBody EndLine = ⊥
IsBody _ = ⊤
