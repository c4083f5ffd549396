-- The text of derivations, and what they keep.
use Rattle.std.specs.Prelude.{◌≡◌, ⊤, ◌+◌, ◌^◌, ◌<◌, ◌≤◌, nat_le, ◌&&◌, Bool, true, ℕ, ℤ, List, [], ◌∷◌, ◌++◌, length, map, flat_map}
use Rattle.std.specs.List.{All}
use Rattle.std.specs.List.Sorted.{IsStrictlyIncreasing}
use Rattle.log_lines.specs.declared.grammar.Limits.{Limits}
use Rattle.row_kit.specs.declared.row.Entry.{Entry}
use Rattle.range_prop.specs.declared.row_cut.RowCut.{RowCut}
use Rattle.derived_rows.specs.declared.derived.Derived.{Derived}
use Rattle.derived_rows.specs.declared.derived.Factor.{Factor}
use Rattle.derived_rows.specs.declared.derived.Group.{Group}
use Rattle.derived_rows.specs.declared.derived.Members.{Members}
use Rattle.derived_rows.specs.declared.derived.Members.TheVariants.{One, OfRow}
use Rattle.derived_rows.specs.Shown.{IsFactor}
use Rattle.derivations.specs.declared.derivation.Derivation.{Derivation}
use Rattle.derivations.specs.declared.derivation.Derivation.TheVariants.{Cut, Row}
use Rattle.derivations.specs.Growth.{rows_of}
use Rattle.sum_lines.specs.declared.head.Head.{Head}
use Rattle.sum_lines.specs.Head.{AreTerms}
use Rattle.derivation_lines.specs.declared.line.TailLine.{TailLine}
use Rattle.derivation_lines.specs.declared.line.TailLine.TheVariants as line
use Rattle.derivation_lines.specs.declared.tail.Counts.{Counts}
use Rattle.derivation_lines.specs.declared.tail.Tail.{Tail}
use Rattle.derivation_lines.specs.Line.{IsShiftNumber, IsTailLine, tail_line_text}

-- the line of a cut
abbrev pub cut_line : RowCut → TailLine
cut_line cut = line.Cut cut.row cut.slot

-- the line with which a derived row begins that is to have so many parts
abbrev pub row_line : Derived → Counts → TailLine
row_line derived counts = line.Row derived.divisor derived.rest derived.up derived.down counts.factors counts.groups counts.entries

-- the line of a factor
abbrev pub factor_line : Factor → TailLine
factor_line factor = line.By factor.row factor.by

-- the line of a group with these members and this shift
abbrev pub members_line : Members → ℤ → TailLine
members_line (One slot) shift = line.Lift slot shift
members_line (OfRow row) shift = line.Shift row shift

-- the line of a group
abbrev pub group_line : Group → TailLine
group_line group = members_line group.members group.shift

-- the line of an entry
abbrev pub entry_line : Entry → TailLine
entry_line entry = line.Entry entry.slot entry.fixed entry.per

-- the lines of a row's parts: its factors, then its groups, then its entries
abbrev pub part_lines : Derived → List TailLine
part_lines derived = map factor_line derived.factors ++ (map group_line derived.groups ++ map entry_line derived.entries)

-- how many parts a derived row has
abbrev pub counts_of : Derived → Counts
counts_of derived = record { factors = length derived.factors; groups = length derived.groups; entries = length derived.entries }

-- the lines of a derived row that is to have so many parts: its own, then those of the parts that it has
abbrev pub row_lines : Derived → Counts → List TailLine
row_lines derived counts = row_line derived counts ∷ part_lines derived

-- the lines of a derivation
abbrev pub derivation_lines : Derivation → List TailLine
derivation_lines (Cut cut) = cut_line cut ∷ []
derivation_lines (Row derived) = row_lines derived (counts_of derived)

-- the lines of derivations, one after another
abbrev pub lines_of : List Derivation → List TailLine
lines_of derivations = flat_map derivation_lines derivations

-- lines as text, each with its line feed (10)
unfoldable pub lines_text : List TailLine → List ℕ
lines_text lines = flat_map (λ line. tail_line_text line ++ 10 ∷ []) lines

-- the text of derivations
abbrev pub tail_text : List Derivation → List ℕ
tail_text derivations = lines_text (lines_of derivations)

-- the lines on which derivations begin, where the first begins on a line: each next one after as many lines as the one before has
abbrev pub begins_on : ℕ → List Derivation → List ℕ
begins_on line [] = []
begins_on line (derivation ∷ derivations) = line ∷ begins_on (line + length (derivation_lines derivation)) derivations

-- the derivations of a log behind its head: the first begins on the line after the head's
abbrev pub tail_of : Head → List Derivation → Tail
tail_of head derivations = record {
  derivations = derivations;
  lines = begins_on (1 + head.count) derivations;
  count = head.count + length (lines_of derivations);
  bytes = head.bytes + length (tail_text derivations);
}

-- the members of a group are there: the slot, or the row
abbrev pub AreNamed : ℕ → ℕ → Members → Type 0
AreNamed slots rows (One slot) = slot < slots
AreNamed slots rows (OfRow row) = row < rows

-- the members of a group are there, and its shift keeps its range
pub record IsNamedGroup (slots rows : ℕ) (group : Group) : Type 0 where
  pub there : AreNamed slots rows group.members
  pub small : IsShiftNumber group.shift

-- the parts that a derived row has so far name what is there and keep their ranges, and the rows of factors and the slots of entries ascend
pub record ArePartsKept (slots rows : ℕ) (derived : Derived) : Type 0 where
  pub factors : All (IsFactor rows) derived.factors
  pub ascending : IsStrictlyIncreasing (map (λ (f : Factor). f.row) derived.factors)
  pub groups : All (IsNamedGroup slots rows) derived.groups
  pub entries : AreTerms slots derived.entries

-- a derived row keeps the limits where so many rows stand before it: its line may be written, with at most as many entries as slots, and its parts keep them
pub record IsRowKept (slots rows : ℕ) (derived : Derived) : Type 0 where
  pub line : IsTailLine (row_line derived (counts_of derived))
  pub few_entries : length derived.entries ≤ slots
  pub parts : ArePartsKept slots rows derived

-- there is room for so many derived rows: 400,000 rows in all, and 4,096 derived ones
abbrev pub has_row_room : Limits → ℕ → Bool
has_row_room limits count = nat_le (limits.rows + count) 400000 && nat_le count 4096

-- a derivation after so many derived rows keeps the limits: a cut names a row and a slot that are there; a row keeps them, and there is room for it
abbrev pub IsDerivationKept : Limits → ℕ → Derivation → Type 0
IsDerivationKept limits before (Cut cut) = (cut.row < limits.rows + before) × (cut.slot < limits.slots)
IsDerivationKept limits before (Row derived) = IsRowKept limits.slots (limits.rows + before) derived × (has_row_room limits (before + 1) ≡ true)

-- derivations after so many derived rows keep the limits
abbrev pub AreKeptAfter : Limits → ℕ → List Derivation → Type 0
AreKeptAfter limits before [] = ⊤
AreKeptAfter limits before (derivation ∷ derivations) = IsDerivationKept limits before derivation × AreKeptAfter limits (before + rows_of (derivation ∷ [])) derivations

-- derivations keep the limits of a program with its sums: each names what stands before it, and keeps its ranges
abbrev pub AreDerivationsKept : Limits → List Derivation → Type 0
AreDerivationsKept limits derivations = AreKeptAfter limits 0 derivations

-- the derivations of a log behind its head are those of a tail, which keep the limits, and end before 2^64 bytes
pub record IsTailKept (limits : Limits) (head : Head) (tail : Tail) : Type 0 where
  pub is : tail ≡ tail_of head tail.derivations
  pub derivations : AreDerivationsKept limits tail.derivations
  pub lines : length tail.lines ≡ length tail.derivations
  pub count : head.count ≤ tail.count
  pub bytes_least : head.bytes ≤ tail.bytes
  pub bytes_most : tail.bytes < 2 ^ 64
