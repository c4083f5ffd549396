-- The lines of derivations, and their text.
use Rattle.std.specs.Prelude.{◌≡◌, ◌≢◌, ◌<◌, ◌≤◌, ℕ, ℤ, pos, false, unsigned_abs, Option, MatchOption, List, [], ◌∷◌, ◌++◌, map, codes}
use Rattle.std.specs.Fmt.{signed_decimal}
use Rattle.row_kit.specs.Row.{is_nothing}
use Rattle.sum_lines.specs.Line.{IsTermPart, IsShort, words_text}
use Rattle.derivation_lines.specs.declared.line.TailLine.{TailLine}
use Rattle.derivation_lines.specs.declared.line.TailLine.TheVariants as line

-- the name of a line, which stands before its numbers
abbrev pub line_name : TailLine → List ℕ
line_name (line.Cut _ _) = codes "cut"
line_name (line.Row _ _ _ _ _ _ _) = codes "row"
line_name (line.By _ _) = codes "by"
line_name (line.Shift _ _) = codes "shift"
line_name (line.Lift _ _) = codes "lift"
line_name (line.Entry _ _ _) = codes "entry"

-- the numbers of a line, in their order
abbrev pub line_numbers : TailLine → List ℤ
line_numbers (line.Cut row slot) = pos row ∷ pos slot ∷ []
line_numbers (line.Row divisor rest up down factors groups entries) = pos divisor ∷ pos rest ∷ pos up ∷ pos down ∷ pos factors ∷ pos groups ∷ pos entries ∷ []
line_numbers (line.By row by) = pos row ∷ by ∷ []
line_numbers (line.Shift row shift) = pos row ∷ shift ∷ []
line_numbers (line.Lift slot shift) = pos slot ∷ shift ∷ []
line_numbers (line.Entry slot fixed per) = pos slot ∷ fixed ∷ per ∷ []

-- numbers as text, each after a blank
abbrev pub numbers_text : List ℤ → List ℕ
numbers_text numbers = words_text (map signed_decimal numbers)

-- the text of a line, without its line feed: its name and its numbers with single blanks between them
unfoldable pub tail_line_text : TailLine → List ℕ
tail_line_text line = line_name line ++ numbers_text (line_numbers line)

-- the number of a divisor or a scale is 1 to 1,000,000,000
abbrev pub IsScale : ℕ → Type 0
IsScale number = (1 ≤ number) × (number ≤ 1000000000)

-- a factor is 1 to 1,000,000 in absolute value
abbrev pub IsFactorNumber : ℤ → Type 0
IsFactorNumber by = (1 ≤ unsigned_abs by) × (unsigned_abs by ≤ 1000000)

-- the shift of a group is at most 1,000,000,000,000 in absolute value
abbrev pub IsShiftNumber : ℤ → Type 0
IsShiftNumber shift = unsigned_abs shift ≤ 1000000000000

-- so many factors, groups and entries may be announced: 1 to 64 factors, at most 512 groups, at most 4,096 entries
abbrev pub AreCounts : ℕ → ℕ → ℕ → Type 0
AreCounts factors groups entries = (1 ≤ factors) × (factors ≤ 64) × (groups ≤ 512) × (entries ≤ 4096)

-- the line may be written: its numbers keep their ranges, an entry's are not both 0, and the numbers of rows and slots have at most 30 digits
abbrev pub IsTailLine : TailLine → Type 0
IsTailLine (line.Cut row slot) = IsShort row × IsShort slot
IsTailLine (line.Row divisor rest up down factors groups entries) = IsScale divisor × (rest < divisor) × IsScale up × IsScale down × AreCounts factors groups entries
IsTailLine (line.By row by) = IsShort row × IsFactorNumber by
IsTailLine (line.Shift row shift) = IsShort row × IsShiftNumber shift
IsTailLine (line.Lift slot shift) = IsShort slot × IsShiftNumber shift
IsTailLine (line.Entry slot fixed per) = IsShort slot × IsTermPart fixed × IsTermPart per × (is_nothing (fixed, per) ≡ false)

-- the answer is the line whose text the bytes are, among those that may be written, and none only where there is none
abbrev pub IsLineOf : List ℕ → Option TailLine → Type 0
IsLineOf bytes answer = MatchOption answer ((line : TailLine) → IsTailLine line → tail_line_text line ≢ bytes) (λ line. IsTailLine line × (tail_line_text line ≡ bytes))
