-- The text of a head, and what its sums keep.
use Rattle.std.specs.Prelude.{◌≡◌, ◌⊎◌, ◌+◌, ◌*◌, ◌^◌, ◌<◌, ◌≤◌, ◌==◌, if◌then◌else◌, ℕ, false, Option, Some, IfSome, List, [], ◌∷◌, ◌++◌, length, map, flat_map, codes}
use Rattle.std.specs.List.{All}
use Rattle.log_lines.specs.declared.grammar.Limits.{Limits}
use Rattle.row_kit.specs.Bounds.{AreBounded}
use Rattle.row_kit.specs.Row.{is_nothing}
use Rattle.row_kit.specs.declared.row.Entry.{Entry}
use Rattle.sum_slots.specs.declared.sum.Sum.{Sum}
use Rattle.sum_slots.specs.Sum.{IsDeclared}
use Rattle.sum_lines.specs.declared.head.Head.{Head}
use Rattle.sum_lines.specs.declared.line.HeadLine.{HeadLine}
use Rattle.sum_lines.specs.declared.line.HeadLine.TheVariants as line
use Rattle.sum_lines.specs.Line.{head_line_text}

-- the line of a term
abbrev pub term_line : Entry → HeadLine
term_line term = line.Term term.slot term.fixed term.per

-- the line with which a sum begins that is to have so many terms
abbrev pub opening_line : Sum → ℕ → HeadLine
opening_line sum count = line.Sum sum.width sum.offset sum.low sum.high count

-- the lines of a sum that is to have so many terms: its own, then those of the terms that it has
abbrev pub open_lines : Sum → ℕ → List HeadLine
open_lines sum count = opening_line sum count ∷ map term_line sum.terms

-- the lines of a sum: its own, then those of its terms
abbrev pub sum_lines : Sum → List HeadLine
sum_lines sum = open_lines sum (length sum.terms)

-- the lines of sums, one sum after another
abbrev pub lines_of : List Sum → List HeadLine
lines_of sums = flat_map sum_lines sums

-- lines as text, each with its line feed (10)
unfoldable pub lines_text : List HeadLine → List ℕ
lines_text lines = flat_map (λ line. head_line_text line ++ 10 ∷ []) lines

-- logs of versions 3 and 4 have a head
abbrev pub IsHeadVersion : ℕ → Type 0
IsHeadVersion version = (version ≡ 3) ⊎ (version ≡ 4)

-- the first line of a head of version 4, and else of version 3
abbrev pub first_line : ℕ → List ℕ
first_line version = if version == 4 then codes "stn-log 4" else codes "stn-log 3"

-- the most slots of a program with those of its sums: 4,096 in version 4, and else 512
abbrev pub most_slots : ℕ → ℕ
most_slots version = if version == 4 then 4096 else 512

-- the most rows of a program with those of its sums: 400,000 in version 4, and else 45,904
abbrev pub most_rows : ℕ → ℕ
most_rows version = if version == 4 then 400000 else 45904

-- the text of a head of a version with these lines after its first
abbrev pub text_with : ℕ → List HeadLine → List ℕ
text_with version lines = first_line version ++ 10 ∷ lines_text lines

-- the text of a head of a version with these sums
abbrev pub head_text : ℕ → List Sum → List ℕ
head_text version sums = text_with version (lines_of sums)

-- the lines on which sums begin, where the first begins on a line: each next one after as many lines as the sum before has
abbrev pub begins_on : ℕ → List Sum → List ℕ
begins_on line [] = []
begins_on line (sum ∷ sums) = line ∷ begins_on (line + (1 + length sum.terms)) sums

-- the head of a version with these sums: the first begins on line 2
abbrev pub head_of : ℕ → List Sum → Head
head_of version sums = record { version = version; sums = sums; lines = begins_on 2 sums; count = 1 + length (lines_of sums); bytes = length (head_text version sums) }

-- the slot of the last term, and the one before where there is none
abbrev pub last_slot : Option ℕ → List Entry → Option ℕ
last_slot above [] = above
last_slot above (term ∷ terms) = last_slot (Some term.slot) terms

-- terms keep the bounds of a sum's: each has a part that is not 0, and they keep the bounds of a row's entries
pub record AreTerms (slots : ℕ) (terms : List Entry) : Type 0 where
  pub count : All (λ term. is_nothing (term.fixed, term.per) ≡ false) terms
  pub bounded : AreBounded slots 10000000 terms

-- the row is there, where one is named
abbrev pub IsThere : ℕ → Option ℕ → Type 0
IsThere rows row = IfSome row (λ row. row < rows)

-- the rows of a sum are there
abbrev pub HasRows : ℕ → Sum → Type 0
HasRows rows sum = IsThere rows sum.low × IsThere rows sum.high

-- sums keep the limits of a version: each is declared over the slots and names rows that are there, and where there are any, there are not too many slots and rows with a slot and two rows for each
pub record AreKept (version : ℕ) (limits : Limits) (sums : List Sum) : Type 0 where
  pub declared : All (IsDeclared limits.slots) sums
  pub rows_there : All (HasRows limits.rows) sums
  pub slots : 0 < length sums → limits.slots + length sums ≤ most_slots version
  pub rows : 0 < length sums → limits.rows + 2 * length sums ≤ most_rows version

-- a head is that of its version with its sums, which keep the limits, and has at least its first line and fewer than 2^64 bytes
pub record IsKeptHead (limits : Limits) (head : Head) : Type 0 where
  pub version : IsHeadVersion head.version
  pub is : head ≡ head_of head.version head.sums
  pub sums : AreKept head.version limits head.sums
  pub lines : length head.lines ≡ length head.sums
  pub count : 1 ≤ head.count
  pub bytes_least : 10 ≤ head.bytes
  pub bytes_most : head.bytes < 2 ^ 64
