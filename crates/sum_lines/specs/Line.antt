-- The lines of a head after its first, and their text.
use Rattle.std.specs.Prelude.{◌≡◌, ◌^◌, ◌<◌, ◌≤◌, ℕ, ℤ, false, unsigned_abs, Option, Some, None, IfSome, List, [], ◌∷◌, ◌++◌, flat_map, codes, decimal}
use Rattle.std.specs.Fmt.{signed_decimal}
use Rattle.row_kit.specs.Row.{is_nothing}
use Rattle.sum_lines.specs.declared.line.HeadLine.{HeadLine}
use Rattle.sum_lines.specs.declared.line.HeadLine.TheVariants as line

-- the word of a row's number: its digits, or a minus (45) where there is none
abbrev pub row_word : Option ℕ → List ℕ
row_word None = 45 ∷ []
row_word (Some row) = decimal row

-- the name of a line, which stands before its words
abbrev pub line_name : HeadLine → List ℕ
line_name (line.Sum _ _ _ _ _) = codes "sum"
line_name (line.Term _ _ _) = codes "term"

-- the words of a line, in their order
abbrev pub line_words : HeadLine → List (List ℕ)
line_words (line.Sum width offset low high count) = decimal width ∷ signed_decimal offset ∷ row_word low ∷ row_word high ∷ decimal count ∷ []
line_words (line.Term slot fixed per) = decimal slot ∷ signed_decimal fixed ∷ signed_decimal per ∷ []

-- words, each after a blank (32)
unfoldable pub words_text : List (List ℕ) → List ℕ
words_text words = flat_map (λ word. 32 ∷ word) words

-- the text of a line, without its line feed: its name and its words with single blanks between them
unfoldable pub head_line_text : HeadLine → List ℕ
head_line_text line = line_name line ++ words_text (line_words line)

-- a number has at most 30 digits
abbrev pub IsShort : ℕ → Type 0
IsShort number = number < 10 ^ 30

-- where a row is named, its number has at most 30 digits
abbrev pub IsShortRow : Option ℕ → Type 0
IsShortRow row = IfSome row IsShort

-- a width is 1 to 1,000,000
abbrev pub IsWidth : ℕ → Type 0
IsWidth width = (1 ≤ width) × (width ≤ 1000000)

-- an offset is at most 900,000,000,000 in absolute value
abbrev pub IsOffset : ℤ → Type 0
IsOffset offset = unsigned_abs offset ≤ 900000000000

-- a count of terms is 1 or more, and has at most 30 digits
abbrev pub IsCount : ℕ → Type 0
IsCount count = (1 ≤ count) × IsShort count

-- either part of a term is at most 10,000,000 in absolute value
abbrev pub IsTermPart : ℤ → Type 0
IsTermPart part = unsigned_abs part ≤ 10000000

-- the line may be written: its width, offset and count or its parts keep their ranges, the parts are not both 0, and the numbers of rows and slots have at most 30 digits
abbrev pub IsHeadLine : HeadLine → Type 0
IsHeadLine (line.Sum width offset low high count) = IsWidth width × IsOffset offset × IsShortRow low × IsShortRow high × IsCount count
IsHeadLine (line.Term slot fixed per) = IsShort slot × IsTermPart fixed × IsTermPart per × (is_nothing (fixed, per) ≡ false)
