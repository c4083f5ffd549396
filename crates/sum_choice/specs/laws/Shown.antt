-- What the range of a declared sum shows, as relations: no quotient is taken of numbers, and no end of a domain looked at.
use Rattle.std.specs.Prelude.{◌≡◌, ◌↔◌, ℕ, ◌*◌, ◌≤◌, false, List, [], ◌∷◌, length, map, Option, Some, None, ℤ, pos, ◌+ℤ◌, ◌*ℤ◌, ◌≤ℤ◌, ◌<ℤ◌}
use Rattle.std.specs.List.{All}
use Rattle.row_kit.specs.declared.domain.Domain.{Domain}
use Rattle.row_kit.specs.declared.program.Program.{Program}
use Rattle.row_kit.specs.declared.row.Entry.{Entry}
use Rattle.row_kit.specs.declared.row.Row.{Row}
use Rattle.row_kit.specs.Domain.{IsNormal, domain_at, values_of}
use Rattle.row_kit.specs.Row.{counted, is_nothing, row_at}
use Rattle.dual_bound.specs.Total.{greatest}
use Rattle.sum_slots.specs.declared.sum.Sum.{Sum}
use Rattle.sum_slots.specs.Shown.{IsShown, greatest_counted, most_by_row, most_count, most_value, opposites}
use Rattle.sum_slots.specs.Sum.{IsDeclared}

-- entries that count something, at least one
pub record AreTerms (terms : List Entry) : Type 0 where
  pub some : 1 ≤ length terms
  pub count : All (λ term. is_nothing (term.fixed, term.per) ≡ false) terms

-- a number is what is left of another, divided by a third, without the remainder: the greatest whole number whose multiple is not above it
abbrev pub IsFloor : ℕ → ℤ → ℤ → Type 0
IsFloor divisor number floor = ((pos divisor *ℤ floor) ≤ℤ number) × (number <ℤ (pos divisor *ℤ (floor +ℤ pos 1)))

-- a term, with both parts so many times as great
abbrev pub times : ℕ → Entry → Entry
times factor term = record { slot = term.slot; fixed = pos factor *ℤ term.fixed; per = pos factor *ℤ term.per }

-- a row bounds what terms count: its entries are the terms times a whole number of 1 or more, with no entry besides, and the bound is its limit divided by that number, rounded down
pub record BoundsByRow (terms : List Entry) (row : Row) (most : ℤ) : Type 0 where
  pub factor : ℕ
  pub some : 1 ≤ factor
  pub entries : row.entries ≡ map (times factor) terms
  pub floor : IsFloor factor row.limit most

-- the sum of the greatest that each term counts at a value that its slot's domain holds, and 0 where it holds none
abbrev pub greatest_over : List Domain → List Entry → ℤ
greatest_over domains [] = pos 0
greatest_over domains (term ∷ terms) = greatest (counted term) (values_of (domain_at domains term.slot)) +ℤ greatest_over domains terms

-- terms are shown to count at most so much: by domains, or by a row of this number
abbrev pub Bounds : Program → List Domain → Option ℕ → List Entry → ℤ → Type 0
Bounds program ranges None terms most = most ≡ greatest_over ranges terms
Bounds program ranges (Some number) terms most = BoundsByRow terms (row_at program.rows number) most

-- a sum is shown: its terms count at most `high`, and at least the opposite of `low`; so its offset plus what they count lies from 0 up, and below 256 times its width
pub record IsShownBetween (program : Program) (ranges : List Domain) (sum : Sum) : Type 0 where
  pub low : ℤ
  pub high : ℤ
  pub low_bound : Bounds program ranges sum.low (opposites sum.terms) low
  pub high_bound : Bounds program ranges sum.high sum.terms high
  pub not_below : low ≤ℤ sum.offset
  pub some : pos 0 ≤ℤ (sum.offset +ℤ high)
  pub byte : (sum.offset +ℤ high) <ℤ pos (256 * sum.width)

-- What the range of a declared sum shows.
pub record ShownLaw : Type 0 where
  -- over a domain an entry counts at most the greatest that it counts at any of the domain's values
  pub domains : (entry : Entry) (domain : Domain) → IsNormal domain → greatest_counted entry domain ≡ greatest (counted entry) (values_of domain)
  -- a row shows exactly the bounds of rows of which the entries are the terms times a whole number
  pub rows : (terms : List Entry) (row : Row) (most : ℤ) → AreTerms terms → (most_by_row terms row ≡ Some most) ↔ BoundsByRow terms row most
  -- either side of a sum is shown exactly by such domains or such a row
  pub sides : (program : Program) (ranges : List Domain) (by : Option ℕ) (terms : List Entry) (most : ℤ) → All IsNormal ranges → AreTerms terms
      → (most_count program ranges by terms ≡ Some most) ↔ Bounds program ranges by terms most
  -- a declared sum is shown exactly where both sides are, and its values from there lie within a byte
  pub sums : (program : Program) (ranges : List Domain) (slots : ℕ) (sum : Sum) → All IsNormal ranges → IsDeclared slots sum
      → IsShown program ranges sum ↔ IsShownBetween program ranges sum
  -- and its greatest value is then the offset plus the most that its terms count, divided by its width, rounded down
  pub most : (program : Program) (ranges : List Domain) (slots : ℕ) (sum : Sum) → All IsNormal ranges → IsDeclared slots sum
      → (shown : IsShownBetween program ranges sum) → IsFloor sum.width (sum.offset +ℤ shown.high) (pos (most_value program ranges sum))
