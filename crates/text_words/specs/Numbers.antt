-- The numbers that words are.
use Rattle.std.specs.Prelude.{◌≡◌, ◌≢◌, ℕ, ◌<◌, ◌≤◌, nat_lt, ◌&&◌, if◌then◌else◌, Option, Some, None, MatchOption, List, decimal, bytes_eq, length, slice_index}
use Rattle.std.specs.Str.Parse.{digits_value}

-- the number below the limit whose decimal digits the word is: the value of its digits, where printing
-- that value gives the word again
unfoldable pub number_below : ℕ → List ℕ → Option ℕ
number_below limit word =
    let number = digits_value 10 word
    in if bytes_eq (decimal number) word && nat_lt number limit then Some number else None

-- the answer is a number below the limit that is printed as the word, and none only where the word is
-- what is printed of no such number
abbrev pub IsNumberBelow : ℕ → List ℕ → Option ℕ → Type 0
IsNumberBelow limit word answer =
    MatchOption answer ((n : ℕ) → n < limit → word ≢ decimal n) (λ n. (n < limit) × (word ≡ decimal n))

-- the word begins neither with a plus (43) nor with a zero (48) that is not its only byte
pub record IsPlain (word : List ℕ) : Type 0 where
  pub unsigned : slice_index word 0 ≢ 43
  pub unpadded : slice_index word 0 ≡ 48 → length word ≤ 1
