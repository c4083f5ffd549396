-- The lines of what has been gathered so far of an item or of a claim.
use Rattle.std.specs.Prelude.{◌≡◌, ◌+◌, ◌-◌, ◌==◌, ◌<◌, ◌≤◌, ◌^◌, ⊤, ℕ, ℤ, Option, None, Some, List, [], ◌∷◌, ◌++◌, map, length, replicate, if◌then◌else◌}
use Rattle.dual_bound.specs.declared.cert.Mult.{Mult}
use Rattle.proof_tree.specs.declared.item.Item.TheVariants.{Node, Cut, Found as FoundItem, Empty, Dual as DualItem, Point, Pending as PendingItem, Split as SplitItem}
use Rattle.proof_log.specs.declared.claim.Claim.TheVariants.{Optimal as OptimalClaim, Infeasible, Between as BetweenClaim, Below}
use Rattle.proof_log.specs.OneText.{IsOver, IsClaimOver}
use Rattle.proof_log.specs.Log.{floor_lines, started, value_lines, mult_line, item_lines, claim_lines}
use Rattle.log_lines.specs.declared.line.Line.{Line}
use Rattle.log_lines.specs.declared.line.Line.TheVariants.{Header, Node as NodeLine, Cut as CutLine, Found as FoundLine, Value as ValueLine, Empty as EmptyLine, Point as PointLine, Dual as DualLine, Pending as PendingLine, Floor as FloorLine, Split as SplitLine, Mult as MultLine, ClaimOptimal, ClaimInfeasible, ClaimBetween, ClaimBelow, End as EndLine}
use Rattle.proof_log.specs.declared.group.ValueHead.{ValueHead}
use Rattle.proof_log.specs.declared.group.ValueHead.TheVariants.{Found, Optimal, Between}
use Rattle.proof_log.specs.declared.group.MultHead.{MultHead}
use Rattle.proof_log.specs.declared.group.MultHead.TheVariants.{Dual, Pending, Split}
use Rattle.proof_log.specs.declared.group.Group.{Group}
use Rattle.proof_log.specs.declared.group.Group.TheVariants.{Nothing, Floor, Values, Mults}
use Rattle.proof_log.specs.declared.group.Piece.{Piece}
use Rattle.proof_log.specs.declared.group.Piece.TheVariants.{Item, Claim as ClaimPiece}
use Rattle.proof_log.specs.declared.group.Grown.{Grown}
use Rattle.proof_log.specs.declared.group.Grown.TheVariants.{More, Whole}

-- the line before this many value lines
abbrev pub value_head_line : ValueHead → ℕ → Line
value_head_line (Found value) count = FoundLine value count
value_head_line (Optimal profit) count = ClaimOptimal profit count
value_head_line (Between profit most) count = ClaimBetween profit most count

-- the lines before this many lines of multipliers
abbrev pub mult_head_lines : MultHead → ℕ → List Line
mult_head_lines (Dual scale) count = DualLine scale count ∷ []
mult_head_lines (Pending scale) count = PendingLine scale count ∷ []
mult_head_lines (Split pick scale) count = floor_lines pick.floor ++ (SplitLine pick.slot pick.max scale count ∷ [])

-- the lines of a group so far
abbrev pub group_lines : Group → List Line
group_lines Nothing = []
group_lines (Floor profit) = floor_lines (Some profit)
group_lines (Values head left point) = value_head_line head (left + started point) ∷ value_lines 0 point
group_lines (Mults head left mults) = mult_head_lines head (left + length mults) ++ map mult_line mults

-- the lines of an item or of a claim
abbrev pub piece_lines : Piece → List Line
piece_lines (Item item) = item_lines item
piece_lines (ClaimPiece claim) = claim_lines claim

-- the point of an item or of a claim has a value for each slot
abbrev pub IsPieceOver : ℕ → Piece → Type 0
IsPieceOver slots (Item item) = IsOver slots item
IsPieceOver slots (ClaimPiece claim) = IsClaimOver slots claim

-- a point with zeroes at its end up to this many values
abbrev pub padded : ℕ → List ℕ → List ℕ
padded slots point = point ++ replicate (slots - length point) 0

-- the item or the claim of a head and its point
abbrev pub value_piece : ValueHead → List ℕ → Piece
value_piece (Found value) point = Item (FoundItem (record { value = value; point = point }))
value_piece (Optimal profit) point = ClaimPiece (OptimalClaim profit point)
value_piece (Between profit most) point = ClaimPiece (BetweenClaim profit most point)

-- the item of a head and its multipliers
abbrev pub mult_piece : MultHead → List Mult → Piece
mult_piece (Dual scale) mults = Item (DualItem (record { scale = scale; mults = mults }))
mult_piece (Pending scale) mults = Item (PendingItem (record { scale = scale; mults = mults }))
mult_piece (Split pick scale) mults = Item (SplitItem pick (record { scale = scale; mults = mults }))

-- what values are of which so many have to come: the whole item or claim where none has
abbrev pub grown_values : ℕ → ValueHead → ℕ → List ℕ → Grown
grown_values slots head left point =
    if left == 0 then Whole (value_piece head (padded slots point)) else More (Values head left point)

-- what multipliers are of which so many have to come: the whole item where none has
abbrev pub grown_mults : MultHead → ℕ → List Mult → Grown
grown_mults head left mults = if left == 0 then Whole (mult_piece head mults) else More (Mults head left mults)

-- what the line of a split begins that has this floor, or none; nothing where it is another line
abbrev pub floored : Option ℤ → Line → Grown
floored floor (SplitLine slot max scale count) = grown_mults (Split (record { slot = slot; max = max; floor = floor }) scale) count []
floored floor _ = More Nothing

-- what a line begins; nothing where it begins neither an item nor a claim
abbrev pub begun : ℕ → Line → Grown
begun slots (Header version) = More Nothing
begun slots NodeLine = Whole (Item Node)
begun slots (CutLine row slot) = Whole (Item (Cut (record { row = row; slot = slot })))
begun slots (FoundLine value count) = grown_values slots (Found value) count []
begun slots (ValueLine slot quanta) = More Nothing
begun slots EmptyLine = Whole (Item Empty)
begun slots PointLine = Whole (Item Point)
begun slots (DualLine scale count) = grown_mults (Dual scale) count []
begun slots (PendingLine scale count) = grown_mults (Pending scale) count []
begun slots (FloorLine profit) = More (Floor profit)
begun slots (SplitLine slot max scale count) = floored None (SplitLine slot max scale count)
begun slots (MultLine row factor) = More Nothing
begun slots (ClaimOptimal profit count) = grown_values slots (Optimal profit) count []
begun slots ClaimInfeasible = Whole (ClaimPiece Infeasible)
begun slots (ClaimBetween profit most count) = grown_values slots (Between profit most) count []
begun slots (ClaimBelow most) = Whole (ClaimPiece (Below most))
begun slots EndLine = More Nothing

-- what a line makes of values
abbrev pub valued : ℕ → ValueHead → ℕ → List ℕ → Line → Grown
valued slots head left point (ValueLine slot quanta) = grown_values slots head (left - 1) (padded slot point ++ quanta ∷ [])
valued slots head left point _ = More Nothing

-- what a line makes of multipliers
abbrev pub multed : MultHead → ℕ → List Mult → Line → Grown
multed head left mults (MultLine row factor) = grown_mults head (left - 1) (mults ++ (record { row = row; factor = factor }) ∷ [])
multed head left mults _ = More Nothing

-- what a line makes of a group
abbrev pub followed : ℕ → Group → Line → Grown
followed slots Nothing line = begun slots line
followed slots (Floor profit) line = floored (Some profit) line
followed slots (Values head left point) line = valued slots head left point line
followed slots (Mults head left mults) line = multed head left mults line

-- the lines are those of a group that more lines are to follow, or of an item or a claim over these slots
abbrev pub HasLines : ℕ → List Line → Grown → Type 0
HasLines slots lines (More group) = group_lines group ≡ lines
HasLines slots lines (Whole piece) = (piece_lines piece ≡ lines) × IsPieceOver slots piece

-- a line is that of a split, and its numbers fit those of the item
abbrev pub MaySplit : Line → Type 0
MaySplit (SplitLine slot max scale count) = (slot < 2 ^ 32) × (scale < 2 ^ 32)
MaySplit _ = ⊥

-- a line may begin an item or a claim, and its numbers fit those of the item
abbrev pub MayBegin : Line → Type 0
MayBegin (Header version) = ⊥
MayBegin NodeLine = ⊤
MayBegin (CutLine row slot) = (row < 2 ^ 32) × (slot < 2 ^ 32)
MayBegin (FoundLine value count) = ⊤
MayBegin (ValueLine slot quanta) = ⊥
MayBegin EmptyLine = ⊤
MayBegin PointLine = ⊤
MayBegin (DualLine scale count) = scale < 2 ^ 32
MayBegin (PendingLine scale count) = scale < 2 ^ 32
MayBegin (FloorLine profit) = ⊤
MayBegin (SplitLine slot max scale count) = MaySplit (SplitLine slot max scale count)
MayBegin (MultLine row factor) = ⊥
MayBegin (ClaimOptimal profit count) = ⊤
MayBegin ClaimInfeasible = ⊤
MayBegin (ClaimBetween profit most count) = ⊤
MayBegin (ClaimBelow most) = ⊤
MayBegin EndLine = ⊥

-- a line begins an item with a certificate
abbrev pub HasCert : Line → Type 0
HasCert (DualLine scale count) = ⊤
HasCert (PendingLine scale count) = ⊤
HasCert (SplitLine slot max scale count) = ⊤
HasCert _ = ⊥

-- a line may follow in a group of values: it is a value of a later slot
abbrev pub MayValue : ℕ → ℕ → List ℕ → Line → Type 0
MayValue slots left point (ValueLine slot quanta) = (0 < left) × (length point ≤ slot) × (slot < slots) × (0 < quanta)
MayValue slots left point _ = ⊥

-- a line may follow in a group of multipliers, and its numbers fit those of a multiplier
abbrev pub MayMult : ℕ → Line → Type 0
MayMult left (MultLine row factor) = (0 < left) × (row < 2 ^ 32) × (factor < 2 ^ 64)
MayMult left _ = ⊥

-- a line may follow a group
abbrev pub MayFollow : ℕ → Group → Line → Type 0
MayFollow slots Nothing line = MayBegin line
MayFollow slots (Floor profit) line = MaySplit line
MayFollow slots (Values head left point) line = MayValue slots left point line
MayFollow slots (Mults head left mults) line = MayMult left line
