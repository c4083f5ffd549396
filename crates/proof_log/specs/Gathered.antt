-- What has been gathered of a log after some of its lines.
use Rattle.std.specs.Prelude.{◌≡◌, ◌+◌, ◌<◌, ⊤, ℕ, List, [], ◌∷◌, ◌++◌, length, flat_map, Option, Some, None, IfSome}
use Rattle.std.specs.List.{All}
use Rattle.proof_tree.specs.Form.{form_of, MayComeAfter, AreWhole}
use Rattle.proof_tree.specs.declared.item.Item.TheVariants.{Cut, Split}
use Rattle.log_lines.specs.declared.grammar.Limits.{Limits}
use Rattle.log_lines.specs.declared.grammar.Place.{Place}
use Rattle.log_lines.specs.declared.grammar.Place.TheVariants.{Header as AtHeader, Done}
use Rattle.log_lines.specs.declared.line.Line.{Line}
use Rattle.log_lines.specs.declared.line.Line.TheVariants.{Header, End}
use Rattle.log_lines.specs.Grammar.{Standing, line_defect, next, over}
use Rattle.log_lines.specs.Line.{IsLine}
use Rattle.proof_log.specs.declared.claim.Claim.{Claim}
use Rattle.proof_log.specs.declared.group.Group.{Group}
use Rattle.proof_log.specs.declared.gatherer.Gatherer.{Gatherer}
use Rattle.proof_log.specs.declared.gatherer.Gathered.{Gathered}
use Rattle.proof_log.specs.declared.gatherer.Gathered.TheVariants.{On, Bad, Item as ItemGathered, Claim as ClaimGathered}
use Rattle.proof_log.specs.Agree.{GroupAgrees, ClaimAgrees, FormAgrees}
use Rattle.proof_log.specs.Gathering.{group_lines}
use Rattle.row_relax.specs.RowProofs.{RowItem}
use Rattle.proof_log.specs.Log.{item_lines, claim_lines, line_after}
use Rattle.proof_log.specs.OneText.{IsOver, IsClaimOver}

-- the end line, where it has come
abbrev pub end_lines_at : Place → List Line
end_lines_at Done = End ∷ []
end_lines_at _ = []

-- the lines after those of the items: those of the open group, or those of the claim and the end line where it has come
abbrev pub tail_lines : Group → Option Claim → Place → List Line
tail_lines group None place = group_lines group
tail_lines group (Some claim) place = claim_lines claim ++ end_lines_at place

-- the lines of a log so far
abbrev pub lines_at : ℕ → Place → List RowItem → Group → Option Claim → List Line
lines_at version AtHeader items group claim = []
lines_at version place items group claim = Header version ∷ (flat_map item_lines items ++ tail_lines group claim place)

-- before the header there is no item
abbrev pub IsFresh : Place → List RowItem → Type 0
IsFresh AtHeader items = items ≡ []
IsFresh _ items = ⊤

-- the lines so far are those of these items and this claim and of what the gatherer holds, and the grammar stands where they lead
pub record HasGathered (lines : List Line) (items : List RowItem) (claim : Option Claim) (g : Gatherer) : Type 0 where
  pub listed : lines ≡ lines_at g.grammar.version g.grammar.place items g.group claim
  pub written : All IsLine lines
  pub number : g.number ≡ length lines
  pub over : All (IsOver g.limits.points) items
  pub claim_over : IfSome claim (IsClaimOver g.limits.points)
  pub fresh : IsFresh g.grammar.place items
  pub began : g.began ≡ line_after items
  pub group : GroupAgrees g.limits g.grammar.place g.group
  pub claimed : ClaimAgrees g.grammar.place claim
  pub form : FormAgrees g.grammar (form_of items)

-- the next line has come: the grammar has taken it and the number counts it, and the rest stands as after the lines before it
pub record LineComes (before : Standing) (lines : List Line) (items : List RowItem) (claim : Option Claim) (line : Line) (g : Gatherer) : Type 0 where
  pub gathered : HasGathered lines items claim (record g { grammar = before; number = length lines })
  pub written : IsLine line
  pub number : g.number ≡ length lines + 1
  pub moves : next before line ≡ Some g.grammar
  pub fine : over g.limits before line ≡ None

-- what an item names is there
abbrev pub IsThere : Limits → RowItem → Type 0
IsThere limits (Cut cut) = (cut.row < limits.rows) × (cut.slot < limits.slots)
IsThere limits (Split pick cert) = pick.slot < limits.slots
IsThere limits _ = ⊤

-- what one more line has made whole: nothing, an item, or the claim; an item or a claim begins at the line after those of the items before
abbrev pub HasMade : List Line → List RowItem → Option Claim → Gatherer → Gathered → Type 0
HasMade lines items claim g (Bad kind) = ⊤
HasMade lines items claim g On = HasGathered lines items claim g
HasMade lines items claim g (ItemGathered line item) =
    (claim ≡ None) × (line ≡ line_after items) × MayComeAfter items item × IsThere g.limits item × HasGathered lines (items ++ item ∷ []) None g
HasMade lines items claim g (ClaimGathered line made) =
    (claim ≡ None) × (line ≡ line_after items) × AreWhole items × HasGathered lines items (Some made) g

-- what a line has made is no defect
abbrev pub IsGood : Gathered → Type 0
IsGood (Bad kind) = ⊥
IsGood _ = ⊤

-- where a line leads: its defect and no further, or none and where it leads
abbrev pub MovesAs : Limits → Standing → Line → Standing → Gathered → Type 0
MovesAs limits old line new (Bad kind) = line_defect limits old line ≡ Some kind
MovesAs limits old line new _ = (line_defect limits old line ≡ None) × (next old line ≡ Some new)
