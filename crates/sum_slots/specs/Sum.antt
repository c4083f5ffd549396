-- What a declared sum counts, and its value.
use Rattle.std.specs.Prelude.{◌≡◌, ℕ, ◌≤◌, false, List, length, ℤ, pos, ◌+ℤ◌, ◌≤ℤ◌, unsigned_abs}
use Rattle.std.specs.Int.{int_div_euclid}
use Rattle.std.specs.List.{All}
use Rattle.row_kit.specs.Bounds.{AreBounded}
use Rattle.row_kit.specs.Row.{entries_sum, is_nothing}
use Rattle.sum_slots.specs.declared.sum.Sum.{Sum}

-- a sum over this many slots keeps its bounds: width is 1 to 1,000,000, offset at most 900,000,000,000 in absolute value, and it has terms, each with a part that is not 0, which keep the bounds of a row's entries
pub record IsDeclared (slots : ℕ) (sum : Sum) : Type 0 where
  pub width_some : 1 ≤ sum.width
  pub width_most : sum.width ≤ 1000000
  pub offset_small : unsigned_abs sum.offset ≤ 900000000000
  pub terms_some : 1 ≤ length sum.terms
  pub terms_count : All (λ term. is_nothing (term.fixed, term.per) ≡ false) sum.terms
  pub terms_bounded : AreBounded slots 10000000 sum.terms

-- the value of a sum whose terms count so much: the whole quotient of its offset plus the count by its width
abbrev pub value_at : Sum → ℤ → ℤ
value_at sum count = int_div_euclid (sum.offset +ℤ count) (pos sum.width)

-- the value of a sum at a point
abbrev pub sum_value : Sum → List ℕ → ℤ
sum_value sum point = value_at sum (entries_sum sum.terms point)

-- a number is that of a byte
abbrev pub IsByte : ℤ → Type 0
IsByte number = (pos 0 ≤ℤ number) × (number ≤ℤ pos 255)
