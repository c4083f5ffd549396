-- What fractions are, how they are written, and what they sum to.
use Rattle.std.specs.Prelude.{◌≡◌, ℕ, ◌*◌, ◌/◌, ◌%◌, ◌<◌, ◌≤◌, nat_le, ◌&&◌, ◌==◌, Bool, if◌then◌else◌, Option, Some, None, option_and_then, List, [], ◌∷◌, ◌++◌, decimal, sum_by}
use Rattle.std.specs.Int.{◌∣◌, IsGcd}
use Rattle.std.specs.List.{before_first, after_first}
use Rattle.text_words.specs.Numbers.{number_below}
use Rattle.fraction.specs.declared.fraction_of.Fraction.{Fraction}

-- the fraction is more than zero and at most one, with terms of at most 10,000
pub record IsProper (f : Fraction) : Type 0 where
  pub some : 1 ≤ f.over
  pub most : f.over ≤ f.under
  pub small : f.under ≤ 10000

-- how the fraction is written: its terms in decimal digits, with a slash (47) between
abbrev pub fraction_text : Fraction → List ℕ
fraction_text f = decimal f.over ++ 47 ∷ decimal f.under

-- the fraction with these terms, if it is more than zero and at most one
abbrev pub proper : ℕ → ℕ → Option Fraction
proper over under = if nat_le 1 over && nat_le over under then Some (record { over = over; under = under }) else None

-- the fraction that the text writes: its terms are the numbers below 10,001 before and after the first slash
unfoldable pub fraction_in : List ℕ → Option Fraction
fraction_in text =
    option_and_then (λ over. option_and_then (proper over) (number_below 10001 (after_first (λ b. b == 47) text)))
    (number_below 10001 (before_first (λ b. b == 47) text))

-- the fraction is the amount over the quantum in lowest terms: no fraction that is the same has a
-- smaller denominator
pub record IsLeast (amount quantum : ℕ) (f : Fraction) : Type 0 where
  pub same : f.over * quantum ≡ f.under * amount
  pub least : (over under : ℕ) → 0 < under → over * quantum ≡ under * amount → f.under ≤ under

-- the product of the denominators, which serves all parts as a common denominator
abbrev pub common_under : List Fraction → ℕ
common_under [] = 1
common_under (part ∷ parts) = part.under * common_under parts

-- what the numerators of the parts sum to over that denominator
abbrev pub numerators : List Fraction → ℕ
numerators parts = sum_by (λ part. part.over * (common_under parts / part.under)) parts

-- the sum of the parts is one: over a common denominator, the numerators sum to it
unfoldable pub SumsToOne : List Fraction → Type 0
SumsToOne parts = numerators parts ≡ common_under parts

-- the same, as a test
abbrev pub sums_to_one : List Fraction → Bool
sums_to_one parts = numerators parts == common_under parts

-- the part of the quantum is whole
abbrev pub is_whole : ℕ → Fraction → Bool
is_whole quantum part = (quantum * part.over) % part.under == 0

-- how much the part of the quantum is, rounded down
abbrev pub amount_in : ℕ → Fraction → ℕ
amount_in quantum part = (quantum * part.over) / part.under

-- the divisor takes a and b to their lowest terms: it is their greatest common divisor, and
-- whichever numbers have the ratio of a to b, the second times the divisor is a multiple of b
pub record Reduces (a b divisor : ℕ) : Type 0 where
  pub gcd : IsGcd a b divisor
  pub multiple : (over under : ℕ) → over * b ≡ under * a → b ∣ divisor * under
