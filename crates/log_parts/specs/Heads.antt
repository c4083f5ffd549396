-- What the heads of logs declare, and how that is written.
use Rattle.std.specs.Prelude.{ℕ, ◌+◌, ◌<◌, ◌==◌, if◌then◌else◌, Bool, List, [], ◌∷◌, ◌++◌, length, map, flat_map, nat_lt}
use Rattle.std.specs.List.{range_with_len}
use Rattle.proof_tree.specs.Items.{tree_items}
use Rattle.row_relax.specs.RowProofs.{RowTree}
use Rattle.derivations.specs.declared.derivation.Derivation.{Derivation}
use Rattle.setup_lines.specs.Line.{setups_text}
use Rattle.derivation_lines.specs.Tail.{begins_on as derivations_begin_on, tail_text}
use Rattle.log_lines.specs.declared.line.Line.TheVariants.{Header, End}
use Rattle.proof_log.specs.declared.claim.Claim.{Claim}
use Rattle.proof_log.specs.Log.{claim_lines, item_lines, lines_text}
use Rattle.sum_slots.specs.declared.sum.Sum.{Sum}
use Rattle.sum_lines.specs.Front.{BeginsWith}
use Rattle.sum_lines.specs.Head.{begins_on, first_line, head_text, lines_of}
use Rattle.log_parts.specs.declared.heads.Declared.{Declared}

-- one item of a head: a sum, the setup of a unit, or a derivation
pub data Item : Type 0 where
  OfSum : (sum : Sum) → Item
  OfUnit : (unit : ℕ) → Item
  Derived : (derivation : Derivation) → Item

-- what a head declares behind its sums: setups, then derivations
abbrev pub behind_sums : Declared → List Item
behind_sums declared = map OfUnit declared.units ++ map Derived declared.derivations

-- what a head declares, one after another: its sums, then setups, then its derivations
abbrev pub items_of : Declared → List Item
items_of declared = map OfSum declared.sums ++ behind_sums declared

-- the lines of a log on which what stands behind the sums of its head begins, where the first of it begins on this one: each setup has a line
abbrev pub lines_behind : ℕ → Declared → List ℕ
lines_behind first declared = range_with_len first (length declared.units) ++ derivations_begin_on (first + length declared.units) declared.derivations

-- the lines of a log on which what it declares begins: its first sum on line 2, and what follows on the line after its sums'
abbrev pub lines_on : Declared → List ℕ
lines_on declared = begins_on 2 declared.sums ++ lines_behind (2 + length (lines_of declared.sums)) declared

-- the text of what stands behind the sums of a head
abbrev pub behind_text : Declared → List ℕ
behind_text declared = setups_text declared.units ++ tail_text declared.derivations

-- the text in the place of a log's first line: of version 2 that line, and else a head of the version
abbrev pub front_text : ℕ → Declared → List ℕ
front_text version declared = if version == 2 then lines_text (Header 2 ∷ []) else head_text version declared.sums ++ behind_text declared

-- the text of a log of a version: its front, the lines of the proof's items and of the claim, and the end
abbrev pub declared_text : ℕ → Declared → RowTree → Claim → List ℕ
declared_text version declared tree claim = front_text version declared ++ lines_text (flat_map item_lines (tree_items tree) ++ (claim_lines claim ++ End ∷ []))

-- a log is of version 4: it begins with that line
abbrev pub IsNewest : List ℕ → Type 0
IsNewest bytes = BeginsWith (first_line 4) bytes

-- one of the first logs, so many, is of version 4
abbrev pub HasNewest : (ℕ → List ℕ) → ℕ → Type 0
HasNewest logs count = (part : ℕ) × ((part < count) × IsNewest (logs part))

-- the version of a log joined of others: 4 where one of them is of version 4; else 3 where sums are declared, and 2 where none are
abbrev pub joined_version : Bool → List Sum → ℕ
joined_version newest sums = if newest then 4 else if nat_lt 0 (length sums) then 3 else 2
