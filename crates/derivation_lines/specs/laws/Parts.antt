-- Stands in specs/ since clauses of private functions cite it; no public clause does.
-- How derivations and the parts of a row are read.
use Rattle.std.specs.Prelude.{◌≡◌, ◌⊎◌, ◌+◌, ℕ, Option, Some, None, IfSome, Result, Ok, Err, drop, List, [], ◌∷◌, ◌++◌, length}
use Rattle.log_lines.specs.declared.grammar.Limits.{Limits}
use Rattle.log_lines.specs.declared.defect.Defect.{Defect}
use Rattle.stn_edge.specs.Files.{FileMap, file_of}
use Rattle.derived_rows.specs.declared.derived.Derived.{Derived}
use Rattle.derivation_lines.specs.declared.beginning.Begun.{Begun}
use Rattle.derivation_lines.specs.declared.beginning.Begun.TheVariants as begun
use Rattle.derivation_lines.specs.declared.line.TailLine.{TailLine}
use Rattle.derivation_lines.specs.declared.pieces.Piece.{Piece}
use Rattle.derivation_lines.specs.declared.pieces.Piece.TheVariants as piece
use Rattle.derivation_lines.specs.declared.seen.Seen.{Seen}
use Rattle.derivation_lines.specs.declared.seen.Seen.TheVariants as seen
use Rattle.derivation_lines.specs.declared.tail.Counts.{Counts}
use Rattle.derivation_lines.specs.declared.tail.Part.{Part}
use Rattle.derivation_lines.specs.declared.tail.Part.TheVariants as part
use Rattle.derivation_lines.specs.Front.{IsBadPart, IsFewer, IsFilling, MayBegin, MayFollow, beginning_defect, next_part, part_defect}
use Rattle.derivation_lines.specs.Tail.{ArePartsKept, cut_line, entry_line, factor_line, group_line, lines_text, part_lines, row_line}
use Rattle.derivation_lines.specs.laws.Walk.{rest_after}

-- a row without parts
pub record HasNoParts (derived : Derived) : Type 0 where
  pub factors : derived.factors ≡ []
  pub groups : derived.groups ≡ []
  pub entries : derived.entries ≡ []

-- what a line that is seen after so many derived rows begins: a cut, a row, a defect, or nothing where it may begin none
abbrev pub IsBegun : Limits → ℕ → Seen → Begun → Type 0
IsBegun limits before shown (begun.Cut cut) = (shown ≡ seen.Line (cut_line cut)) × MayBegin limits.slots (cut_line cut) × (beginning_defect limits before (cut_line cut) ≡ None)
IsBegun limits before shown (begun.Row derived counts) =
    (shown ≡ seen.Line (row_line derived counts)) × MayBegin limits.slots (row_line derived counts) × (beginning_defect limits before (row_line derived counts) ≡ None) × HasNoParts derived
IsBegun limits before shown (begun.Bad kind) =
    (line : TailLine) × (shown ≡ seen.Line line) × MayBegin limits.slots line × (beginning_defect limits before line ≡ Some kind)
IsBegun limits before shown begun.Nothing = (line : TailLine) → shown ≡ seen.Line line → ¬ MayBegin limits.slots line

-- the line of a piece
abbrev pub piece_line : Piece → TailLine
piece_line (piece.Factor factor) = factor_line factor
piece_line (piece.Group group) = group_line group
piece_line (piece.Entry entry) = entry_line entry

-- a row with one part more
abbrev pub with_piece : Derived → Piece → Derived
with_piece derived (piece.Factor factor) = record derived { factors = derived.factors ++ factor ∷ [] }
with_piece derived (piece.Group group) = record derived { groups = derived.groups ++ group ∷ [] }
with_piece derived (piece.Entry entry) = record derived { entries = derived.entries ++ entry ∷ [] }

-- a piece is one of a part
abbrev pub part_of : Piece → Part
part_of (piece.Factor _) = part.Factor
part_of (piece.Group _) = part.Group
part_of (piece.Entry _) = part.Entry

-- the piece that is seen may come next in a row, and names what is there
pub record IsNextPiece (slots rows : ℕ) (derived : Derived) (next : Part) (piece : Piece) : Type 0 where
  pub follows : MayFollow derived next (piece_line piece)
  pub sound : part_defect slots rows (piece_line piece) ≡ None

-- the kind of the defect of what is seen where a part is to come
abbrev pub IsPartKind : ℕ → ℕ → Derived → Part → Seen → ℕ → Type 0
IsPartKind slots rows derived next seen.Cut kind = kind ≡ 2
IsPartKind slots rows derived next seen.Other kind = kind ≡ 1
IsPartKind slots rows derived next (seen.Line line) kind =
    ((kind ≡ 1) × (¬ MayFollow derived next line)) ⊎ (MayFollow derived next line × (part_defect slots rows line ≡ Some kind))

-- what is read of what is seen where a part is to come: a piece, whose line it is; or the kind of a defect
abbrev pub ReadsSeen : ℕ → ℕ → Derived → Part → Seen → Result Piece ℕ → Type 0
ReadsSeen slots rows derived next shown (Ok piece) = (shown ≡ seen.Line (piece_line piece)) × IsNextPiece slots rows derived next piece
ReadsSeen slots rows derived next shown (Err kind) = IsPartKind slots rows derived next shown kind

-- the same of a line
abbrev pub ReadsPiece : ℕ → ℕ → Derived → Part → TailLine → Result Piece ℕ → Type 0
ReadsPiece slots rows derived next line answer = ReadsSeen slots rows derived next (seen.Line line) answer

-- after these lines, those of a row and its parts so far, the next line has this defect
pub record HasBadPart (files : Option FileMap) (name : List ℕ) (start number slots rows : ℕ) (derived : Derived) (next : Part) (lines : List TailLine) (defect : Defect) : Type 0 where
  pub line : defect.line ≡ number + length lines
  pub told : IfSome files (λ m. (drop start (file_of m name) ≡ lines_text lines ++ rest_after start lines (file_of m name))
      × IsBadPart slots rows derived next (rest_after start lines (file_of m name)) defect.kind)

-- rows have the same divisor, rest and scale
pub record HasHead (old new : Derived) : Type 0 where
  pub divisor : new.divisor ≡ old.divisor
  pub rest : new.rest ≡ old.rest
  pub up : new.up ≡ old.up
  pub down : new.down ≡ old.down

-- after these lines, and some parts of a row that is to have so many, but not all, the next line has this defect
pub record HasBadParts (files : Option FileMap) (name : List ℕ) (start number slots rows : ℕ) (derived : Derived) (counts : Counts) (lines : List TailLine) (defect : Defect) : Type 0 where
  pub parts : Derived
  pub head : HasHead derived parts
  pub kept : ArePartsKept slots rows parts
  pub filling : IsFilling parts counts
  pub fewer : IsFewer parts counts
  pub bad : HasBadPart files name start number slots rows parts (next_part parts counts) (lines ++ part_lines parts) defect
