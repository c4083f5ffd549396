-- Stands in specs/ since clauses of private functions cite it; no public clause does.
-- How the numbers of a line and the line itself are read.
use Rattle.std.specs.Prelude.{◌≡◌, ◌≢◌, ◌<◌, ◌^◌, ℕ, ℤ, pos, unsigned_abs, ◌≤ℤ◌, Bool, true, false, Option, MatchOption, List, ◌++◌}
use Rattle.std.specs.List.{All}
use Rattle.derivation_lines.specs.declared.line.TailLine.{TailLine}
use Rattle.derivation_lines.specs.Line.{IsTailLine, line_name, line_numbers, numbers_text}

-- each number has at most 30 digits
abbrev pub AreShort : List ℤ → Type 0
AreShort numbers = All (λ number. unsigned_abs number < 10 ^ 30) numbers

-- a text is that of numbers of at most 30 digits
pub record IsNumbersText (text : List ℕ) (numbers : List ℤ) : Type 0 where
  pub short : AreShort numbers
  pub is : text ≡ numbers_text numbers

-- the numbers of a text were appended to others; or the text is none of numbers
abbrev pub ReadsNumbers : List ℕ → List ℤ → List ℤ → Bool → Type 0
ReadsNumbers text old new true = (numbers : List ℤ) × IsNumbersText text numbers × (new ≡ old ++ numbers)
ReadsNumbers text old new false = (numbers : List ℤ) → ¬ IsNumbersText text numbers

-- a number is 0 to 1,000,000,000
abbrev pub IsSmall : ℤ → Type 0
IsSmall number = (pos 0 ≤ℤ number) × (number ≤ℤ pos 1000000000)

-- the answer is the line of a name with these numbers, among those that may be written, and none only where there is none
abbrev pub ReadsNamed : List ℕ → List ℤ → Option TailLine → Type 0
ReadsNamed name numbers answer =
    MatchOption answer ((line : TailLine) → IsTailLine line → line_name line ≡ name → line_numbers line ≢ numbers)
    (λ line. IsTailLine line × (line_name line ≡ name) × (line_numbers line ≡ numbers))
