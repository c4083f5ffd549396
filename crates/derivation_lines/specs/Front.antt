-- What stands after the sums of a log.
use Rattle.std.specs.Prelude.{◌≡◌, ◌⊎◌, ⊤, ◌+◌, ◌<◌, ◌≤◌, nat_lt, nat_le, true, if◌then◌else◌, ℕ, Option, Some, None, List, [], ◌∷◌, ◌++◌, length, drop}
use Rattle.log_lines.specs.declared.grammar.Limits.{Limits}
use Rattle.log_lines.specs.Grammar.{follows}
use Rattle.log_lines.specs.declared.defect.Defect.{Defect}
use Rattle.derived_rows.specs.declared.derived.Derived.{Derived}
use Rattle.derived_rows.specs.declared.derived.Factor.{Factor}
use Rattle.derivations.specs.declared.derivation.Derivation.{Derivation}
use Rattle.derivations.specs.Growth.{rows_of}
use Rattle.sum_lines.specs.declared.head.Head.{Head}
use Rattle.sum_lines.specs.Front.{BeginsWith, EndsEarly}
use Rattle.sum_lines.specs.Head.{last_slot}
use Rattle.derivation_lines.specs.declared.line.TailLine.{TailLine}
use Rattle.derivation_lines.specs.declared.line.TailLine.TheVariants as line
use Rattle.derivation_lines.specs.declared.tail.Counts.{Counts}
use Rattle.derivation_lines.specs.declared.tail.Part.{Part}
use Rattle.derivation_lines.specs.declared.tail.Part.TheVariants as part
use Rattle.derivation_lines.specs.declared.tail.Tail.{Tail}
use Rattle.derivation_lines.specs.declared.tail.TailFront.{TailFront}
use Rattle.derivation_lines.specs.declared.tail.TailFront.TheVariants.{Whole, Bad}
use Rattle.derivation_lines.specs.Line.{IsTailLine, tail_line_text}
use Rattle.derivation_lines.specs.Tail.{AreDerivationsKept, ArePartsKept, IsTailKept, has_row_room, lines_of, lines_text, row_line, row_lines, tail_text}

-- a line may begin a derivation: it is a cut or a row line that may be written, and a row line announces at most as many entries as slots
abbrev pub MayBegin : ℕ → TailLine → Type 0
MayBegin slots (line.Cut row slot) = IsTailLine (line.Cut row slot)
MayBegin slots (line.Row divisor rest up down factors groups entries) = IsTailLine (line.Row divisor rest up down factors groups entries) × (entries ≤ slots)
MayBegin slots (line.By _ _) = ⊥
MayBegin slots (line.Shift _ _) = ⊥
MayBegin slots (line.Lift _ _) = ⊥
MayBegin slots (line.Entry _ _ _) = ⊥

-- the row of the last factor, and the one before where there is none
abbrev pub last_row : Option ℕ → List Factor → Option ℕ
last_row above [] = above
last_row above (factor ∷ factors) = last_row (Some factor.row) factors

-- what comes next in a row that is to have so many parts: a factor while there are too few, then a group, then an entry
abbrev pub next_part : Derived → Counts → Part
next_part derived counts =
    if nat_lt (length derived.factors) counts.factors then part.Factor else if nat_lt (length derived.groups) counts.groups then part.Group else part.Entry

-- a line may be that of the part that comes next: it may be written, and the row of a factor or the slot of an entry follows the last one
abbrev pub MayFollow : Derived → Part → TailLine → Type 0
MayFollow derived part.Factor (line.By row by) = IsTailLine (line.By row by) × (follows (last_row None derived.factors) row ≡ true)
MayFollow derived part.Group (line.Shift row shift) = IsTailLine (line.Shift row shift)
MayFollow derived part.Group (line.Lift slot shift) = IsTailLine (line.Lift slot shift)
MayFollow derived part.Entry (line.Entry slot fixed per) = IsTailLine (line.Entry slot fixed per) × (follows (last_slot None derived.entries) slot ≡ true)
MayFollow derived _ _ = ⊥

-- no line of some kind stands first in bytes
abbrev pub NoneFirst : (TailLine → Type 0) → List ℕ → Type 0
NoneFirst P bytes = (line : TailLine) → P line → ¬ BeginsWith (tail_line_text line) bytes

-- kind 4 where a row is not there
abbrev pub row_defect : ℕ → ℕ → Option ℕ
row_defect rows row = if nat_le rows row then Some 4 else None

-- kind 5 where a slot is not there
abbrev pub slot_defect : ℕ → ℕ → Option ℕ
slot_defect slots slot = if nat_le slots slot then Some 5 else None

-- the kind of the defect of a line that begins a derivation after so many derived rows: of a cut 4 where its row is not there, else 5 where its slot is not; of a row 21 where there is no room for it
abbrev pub beginning_defect : Limits → ℕ → TailLine → Option ℕ
beginning_defect limits before (line.Cut row slot) = if nat_le (limits.rows + before) row then Some 4 else slot_defect limits.slots slot
beginning_defect limits before (line.Row _ _ _ _ _ _ _) = if has_row_room limits (before + 1) then None else Some 21
beginning_defect limits before _ = None

-- the kind of the defect of a part's line: 4 where its row is not there, 5 where its slot is not
abbrev pub part_defect : ℕ → ℕ → TailLine → Option ℕ
part_defect slots rows (line.By row _) = row_defect rows row
part_defect slots rows (line.Shift row _) = row_defect rows row
part_defect slots rows (line.Lift slot _) = slot_defect slots slot
part_defect slots rows (line.Entry slot _ _) = slot_defect slots slot
part_defect slots rows _ = None

-- kind 2: where a part is to come, the file ends before the line feed
abbrev pub IsCutPart : List ℕ → ℕ → Type 0
IsCutPart bytes kind = (kind ≡ 2) × EndsEarly bytes

-- kind 1: where a part is to come, there is another line, or one that is too long
abbrev pub IsNoPart : Derived → Part → List ℕ → ℕ → Type 0
IsNoPart derived next bytes kind = (kind ≡ 1) × (¬ EndsEarly bytes) × NoneFirst (MayFollow derived next) bytes

-- kind 4 or 5: the row or the slot of the part that comes next is not there
pub record IsFarPart (slots rows : ℕ) (derived : Derived) (next : Part) (bytes : List ℕ) (kind : ℕ) : Type 0 where
  pub line : TailLine
  pub may_follow : MayFollow derived next line
  pub first : BeginsWith (tail_line_text line) bytes
  pub far : part_defect slots rows line ≡ Some kind

-- where a part of a derived row is to come, the next line has a defect of this kind: 2, 1, 4 or 5
abbrev pub IsBadPart : ℕ → ℕ → Derived → Part → List ℕ → ℕ → Type 0
IsBadPart slots rows derived next bytes kind = IsCutPart bytes kind ⊎ (IsNoPart derived next bytes kind ⊎ IsFarPart slots rows derived next bytes kind)

-- bytes begin after so many derived rows with a line that may begin a derivation and has a defect of this kind
pub record IsBadBeginning (limits : Limits) (before : ℕ) (bytes : List ℕ) (kind : ℕ) : Type 0 where
  pub line : TailLine
  pub begins : MayBegin limits.slots line
  pub first : BeginsWith (tail_line_text line) bytes
  pub defect : beginning_defect limits before line ≡ Some kind

-- after lines, the first of which has a number, the next line begins a derivation and has this defect
pub record IsBadAtStart (limits : Limits) (before number : ℕ) (lines : List TailLine) (bytes : List ℕ) (defect : Defect) : Type 0 where
  pub rest : List ℕ
  pub is : bytes ≡ lines_text lines ++ rest
  pub line : defect.line ≡ number + length lines
  pub bad : IsBadBeginning limits before rest defect.kind

-- a row has fewer parts of some kind than it is to have
abbrev pub IsFewer : Derived → Counts → Type 0
IsFewer derived counts = (length derived.factors < counts.factors) ⊎ ((length derived.groups < counts.groups) ⊎ (length derived.entries < counts.entries))

-- a derived row has no more parts of any kind than it is to have; its groups come after all of its factors, and its entries after all of its groups
pub record IsFilling (derived : Derived) (counts : Counts) : Type 0 where
  pub few_factors : length derived.factors ≤ counts.factors
  pub few_groups : length derived.groups ≤ counts.groups
  pub few_entries : length derived.entries ≤ counts.entries
  pub groups_after : 0 < length derived.groups → length derived.factors ≡ counts.factors
  pub entries_after : 0 < length derived.entries → (length derived.factors ≡ counts.factors) × (length derived.groups ≡ counts.groups)

-- after lines, the first of which has a number, and those of an open row, the next line has this defect
pub record IsBadInRow (limits : Limits) (before number : ℕ) (lines : List TailLine) (bytes : List ℕ) (defect : Defect) : Type 0 where
  pub derived : Derived
  pub counts : Counts
  pub rest : List ℕ
  pub begins : MayBegin limits.slots (row_line derived counts)
  pub sound : beginning_defect limits before (row_line derived counts) ≡ None
  pub parts : ArePartsKept limits.slots (limits.rows + before) derived
  pub filling : IsFilling derived counts
  pub fewer : IsFewer derived counts
  pub is : bytes ≡ lines_text (lines ++ row_lines derived counts) ++ rest
  pub line : defect.line ≡ number + length (lines ++ row_lines derived counts)
  pub bad : IsBadPart limits.slots (limits.rows + before) derived (next_part derived counts) rest defect.kind

-- after lines, the first of which has a number, and perhaps those of an open row, the next line has this defect
abbrev pub IsBadAt : Limits → ℕ → ℕ → List TailLine → List ℕ → Defect → Type 0
IsBadAt limits before number lines bytes defect = IsBadAtStart limits before number lines bytes defect ⊎ IsBadInRow limits before number lines bytes defect

-- after whole derivations that keep the limits, and perhaps an open row, the next line of what follows a head has this defect
pub record IsBadTail (limits : Limits) (head : Head) (bytes : List ℕ) (defect : Defect) : Type 0 where
  pub derivations : List Derivation
  pub kept : AreDerivationsKept limits derivations
  pub bad : IsBadAt limits (rows_of derivations) (1 + head.count) (lines_of derivations) (drop head.bytes bytes) defect

-- behind a head the text of derivations stands, which keep the limits, and after it no line stands first that may begin one
pub record IsTailed (limits : Limits) (head : Head) (bytes : List ℕ) (tail : Tail) : Type 0 where
  pub kept : IsTailKept limits head tail
  pub is : drop head.bytes bytes ≡ tail_text tail.derivations ++ drop tail.bytes bytes
  pub ends : NoneFirst (MayBegin limits.slots) (drop tail.bytes bytes)

-- what stands in bytes behind a head: derivations, maybe none; or their first defect
abbrev pub IsTailFront : Limits → Head → List ℕ → TailFront → Type 0
IsTailFront limits head bytes (Whole tail) = IsTailed limits head bytes tail
IsTailFront limits head bytes (Bad defect) = IsBadTail limits head bytes defect

-- the derivations, where there is no defect, keep the limits
abbrev pub TailKeepsLimits : Limits → Head → TailFront → Type 0
TailKeepsLimits limits head (Whole tail) = IsTailKept limits head tail
TailKeepsLimits limits head (Bad _) = ⊤
