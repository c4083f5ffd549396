-- How the numbers of a line are read: one after another, each after a blank.
use Rattle.std.specs.Prelude.{◌≡◌, ◌≢◌, ◌<◌, ⊤, ℕ, ℤ, pos, negsuc, Bool, true, false, eqb, Option, MatchOption, List, [], ◌∷◌, ◌++◌, All, length, slice_index}
use Rattle.std.specs.Fmt.{signed_decimal}
use Rattle.log_lines.specs.Line.{IsShort, number_text}

-- no byte is a blank
abbrev pub IsWord : List ℕ → Type 0
IsWord text = All (λ byte. eqb byte 32 ≡ false) text

-- nothing follows, or a blank does
abbrev pub IsRest : List ℕ → Type 0
IsRest text = 0 < length text → slice_index text 0 ≡ 32

-- the first word of a text, and what follows from the blank after it on
pub record IsCut (text word rest : List ℕ) : Type 0 where
  pub is_word : IsWord word
  pub is_rest : IsRest rest
  pub is : text ≡ word ++ rest

-- a number that may have a minus, or one that has none
abbrev pub HasSign : Bool → ℤ → Type 0
HasSign true _ = ⊤
HasSign false (pos _) = ⊤
HasSign false (negsuc _) = ⊥

-- numbers of at most 30 digits, as many as there are signs, each of its sign
abbrev pub Fit : List Bool → List ℤ → Type 0
Fit [] [] = ⊤
Fit (sign ∷ signs) (number ∷ numbers) = IsShort number × HasSign sign number × Fit signs numbers
Fit _ _ = ⊥

-- the answer is the numbers of these signs whose text this is, and none only where it is the text of no such numbers
abbrev pub Reads : List Bool → List ℕ → Option (List ℤ) → Type 0
Reads signs text answer =
    MatchOption answer ((numbers : List ℤ) → Fit signs numbers → text ≢ number_text numbers)
    (λ numbers. Fit signs numbers × (text ≡ number_text numbers))

-- a number of this sign stands first in the text, and the rest follows
pub record IsFirst (sign : Bool) (text : List ℕ) (number : ℤ) (rest : List ℕ) : Type 0 where
  pub short : IsShort number
  pub has_sign : HasSign sign number
  pub is_rest : IsRest rest
  pub is : text ≡ 32 ∷ (signed_decimal number ++ rest)

-- the answer is the number of this sign that stands first and what follows, and none only where no such number does
abbrev pub ReadsFirst : Bool → List ℕ → Option (ℤ × List ℕ) → Type 0
ReadsFirst sign text answer =
    MatchOption answer ((number : ℤ) (rest : List ℕ) → ¬ IsFirst sign text number rest) (λ read. IsFirst sign text read.0 read.1)
