-- The lines in which a proof and its claim are written, and the text that they are.
use Rattle.std.specs.Prelude.{ℕ, ℤ, ◌+◌, ◌==◌, if◌then◌else◌, List, [], ◌∷◌, ◌++◌, map, length, flat_map, count_by, not, drop, Option, None, Some}
use Rattle.std.specs.List.{sum_by}
use Rattle.row_kit.specs.declared.area.Area.{Area}
use Rattle.row_kit.specs.declared.found.Found.{Found}
use Rattle.range_prop.specs.declared.row_cut.RowCut.{RowCut}
use Rattle.dual_bound.specs.declared.cert.Cert.{Cert}
use Rattle.dual_bound.specs.declared.cert.Mult.{Mult}
use Rattle.proof_tree.specs.declared.item.Item.{Item}
use Rattle.proof_tree.specs.declared.item.Item.TheVariants.{Node, Cut, Found as FoundItem, Empty, Dual, Point, Pending, Split}
use Rattle.proof_tree.specs.declared.proof.End.{End}
use Rattle.proof_tree.specs.Items.{tree_items}
use Rattle.proof_tree.specs.Tree.{Tree, tree_at}
use Rattle.row_relax.specs.declared.RowPick.{RowPick}
use Rattle.row_relax.specs.declared.Rows.{Rows}
use Rattle.log_lines.specs.declared.line.Line.{Line}
use Rattle.log_lines.specs.declared.line.Line.TheVariants.{Header, Node as NodeLine, Cut as CutLine, Found as FoundLine, Value as ValueLine, Empty as EmptyLine, Point as PointLine, Dual as DualLine, Pending as PendingLine, Floor as FloorLine, Split as SplitLine, Mult as MultLine, ClaimOptimal, ClaimInfeasible, ClaimBetween, ClaimBelow, End as EndLine}
use Rattle.log_lines.specs.Line.{line_text}
use Rattle.proof_log.specs.declared.claim.Claim.{Claim}
use Rattle.proof_log.specs.declared.claim.Claim.TheVariants.{Optimal, Infeasible, Between, Below}
use Rattle.row_relax.specs.RowProofs.{RowItem, RowTree}

-- how many slots of a point have a start: their value is not 0
abbrev pub started : List ℕ → ℕ
started point = count_by (λ value. not (value == 0)) point

-- the line of a slot with this value: none where nothing starts in it
abbrev pub value_line : ℕ → ℕ → List Line
value_line slot value = if value == 0 then [] else ValueLine slot value ∷ []

-- the lines of the values of a point from this slot on, in the order of the slots
abbrev pub value_lines : ℕ → List ℕ → List Line
value_lines slot [] = []
value_lines slot (value ∷ point) = value_line slot value ++ value_lines (slot + 1) point

-- the line of a multiplier
abbrev pub mult_line : Mult → Line
mult_line mult = MultLine mult.row mult.factor

-- the line of a floor, where there is one
abbrev pub floor_lines : Option ℤ → List Line
floor_lines None = []
floor_lines (Some profit) = FloorLine profit ∷ []

-- the lines of an item: one that says what it is, behind that of a split's floor, and those of its point's values or of its certificate's multipliers
unfoldable pub item_lines : RowItem → List Line
item_lines Node = NodeLine ∷ []
item_lines (Cut cut) = CutLine cut.row cut.slot ∷ []
item_lines (FoundItem found) = FoundLine found.value (started found.point) ∷ value_lines 0 found.point
item_lines Empty = EmptyLine ∷ []
item_lines (Dual cert) = DualLine cert.scale (length cert.mults) ∷ map mult_line cert.mults
item_lines Point = PointLine ∷ []
item_lines (Pending cert) = PendingLine cert.scale (length cert.mults) ∷ map mult_line cert.mults
item_lines (Split pick cert) = floor_lines pick.floor ++ (SplitLine pick.slot pick.max cert.scale (length cert.mults) ∷ map mult_line cert.mults)

-- the lines of a proof: those of its items
abbrev pub tree_lines : RowTree → List Line
tree_lines tree = flat_map item_lines (tree_items tree)

-- the lines of the end of a node and of what stands below it: those of a node without cuts and found point, but for the node's own
abbrev pub end_lines : End RowCut Cert RowPick Found → List Line
end_lines end = drop 1 (tree_lines (tree_at [] None end))

-- the lines of a claim, with those of its plan's values where it has one
unfoldable pub claim_lines : Claim → List Line
claim_lines (Optimal profit point) = ClaimOptimal profit (started point) ∷ value_lines 0 point
claim_lines Infeasible = ClaimInfeasible ∷ []
claim_lines (Between profit cap point) = ClaimBetween profit cap (started point) ∷ value_lines 0 point
claim_lines (Below cap) = ClaimBelow cap ∷ []

-- the lines of a log: its version, those of the items of its proof, its claim, and an end
unfoldable pub log_lines : ℕ → List RowItem → Claim → List Line
log_lines version items claim = Header version ∷ (flat_map item_lines items ++ (claim_lines claim ++ EndLine ∷ []))

-- the number of the line after the header and the lines of these items
abbrev pub line_after : List RowItem → ℕ
line_after items = 2 + sum_by (λ item. length (item_lines item)) items

-- the text of lines: each ends with a line feed (10)
unfoldable pub lines_text : List Line → List ℕ
lines_text lines = flat_map (λ line. line_text line ++ 10 ∷ []) lines

-- the text of a log
unfoldable pub log_text : ℕ → List RowItem → Claim → List ℕ
log_text version items claim = lines_text (log_lines version items claim)
