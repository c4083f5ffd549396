-- How the range of a declared sum is shown.
use Rattle.std.specs.Prelude.{◌≡◌, ℕ, ◌/◌, ◌==◌, nat_le, nat_lt, Bool, true, false, ◌&&◌, if◌then◌else◌, List, [], ◌∷◌, length, map, Option, Some, None, ℤ, pos, neg_ℤ, ◌+ℤ◌, ◌*ℤ◌, ◌≤ℤ◌, unsigned_abs, MatchOption}
use Rattle.std.specs.Int.{int_div_euclid, int_max}
use Rattle.std.specs.List.{All}
use Rattle.std.specs.Ordering.{int_eq}
use Rattle.row_kit.specs.declared.domain.Domain.{Domain}
use Rattle.row_kit.specs.declared.program.Program.{Program}
use Rattle.row_kit.specs.declared.row.Entry.{Entry}
use Rattle.row_kit.specs.declared.row.Row.{Row}
use Rattle.row_kit.specs.Domain.{IsNormal, domain_at}
use Rattle.row_kit.specs.Point.{LiesIn}
use Rattle.row_kit.specs.Row.{counted, row_at}
use Rattle.sum_slots.specs.declared.sum.Sum.{Sum}
use Rattle.sum_slots.specs.Sum.{IsByte, value_at}

-- a number, or where that is wanted its opposite
abbrev pub turned_part : Bool → ℤ → ℤ
turned_part turn part = if turn then neg_ℤ part else part

-- an entry, or where that is wanted its opposite
abbrev pub turned : Bool → Entry → Entry
turned turn entry = record { slot = entry.slot; fixed = turned_part turn entry.fixed; per = turned_part turn entry.per }

-- the opposites of entries
abbrev pub opposites : List Entry → List Entry
opposites entries = map (turned true) entries

-- the greater of what an entry counts at the ends of a domain's values of 1 or more
abbrev pub greater_end : Entry → Domain → ℤ
greater_end entry domain = int_max (counted entry domain.lo) (counted entry domain.hi)

-- the greatest that an entry counts over a domain: at 0 where it is held, or at an end of the values of 1 or more; 0 where there are none of these
abbrev pub greatest_counted : Entry → Domain → ℤ
greatest_counted entry domain =
    if nat_lt domain.hi domain.lo
    then pos 0
    else (if domain.zero then int_max (pos 0) (greater_end entry domain) else greater_end entry domain)

-- the greatest that entries count over domains: the sum of the greatest of each
abbrev pub greatest_sum : List Entry → List Domain → ℤ
greatest_sum [] domains = pos 0
greatest_sum (entry ∷ entries) domains = greatest_counted entry (domain_at domains entry.slot) +ℤ greatest_sum entries domains

-- the whole quotient of an entry's fixed part by that of a term, in absolute value, and of the parts for each quantum where the term has no fixed part
abbrev pub quotient_of : Entry → Entry → ℕ
quotient_of term entry =
    if int_eq term.fixed (pos 0)
    then unsigned_abs entry.per / unsigned_abs term.per
    else unsigned_abs entry.fixed / unsigned_abs term.fixed

-- the factor by which entries can be multiples of terms: the quotient of the first entry by the first term, and 0 where there is none
abbrev pub factor_of : List Entry → List Entry → ℕ
factor_of [] entries = 0
factor_of (term ∷ terms) [] = 0
factor_of (term ∷ terms) (entry ∷ entries) = quotient_of term entry

-- an entry is a term times a factor
abbrev pub is_multiple : ℕ → Entry → Entry → Bool
is_multiple factor term entry =
    (entry.slot == term.slot) && int_eq entry.fixed (pos factor *ℤ term.fixed) && int_eq entry.per (pos factor *ℤ term.per)

-- entries are terms, each times a factor
abbrev pub are_multiples : ℕ → List Entry → List Entry → Bool
are_multiples factor [] [] = true
are_multiples factor [] (entry ∷ entries) = false
are_multiples factor (term ∷ terms) [] = false
are_multiples factor (term ∷ terms) (entry ∷ entries) = is_multiple factor term entry && are_multiples factor terms entries

-- the most that terms count where a row is kept: the whole quotient of its limit by a factor of 1 or more, where its entries are the terms times that factor; another row shows nothing
abbrev pub most_by_row : List Entry → Row → Option ℤ
most_by_row terms row =
    let factor = factor_of terms row.entries in
    if nat_le 1 factor && are_multiples factor terms row.entries then Some (int_div_euclid row.limit (pos factor)) else None

-- domains in which a program's points lie: one for each slot, each normal
pub record AreRanges (program : Program) (ranges : List Domain) : Type 0 where
  pub same_length : length ranges ≡ length program.root
  pub normal : All IsNormal ranges
  pub hold : (point : List ℕ) → LiesIn program.root point → LiesIn ranges point

-- the most that terms are shown to count: by the domains in which points lie, or by a row of this number
abbrev pub most_count : Program → List Domain → Option ℕ → List Entry → Option ℤ
most_count program ranges None terms = Some (greatest_sum terms ranges)
most_count program ranges (Some number) terms = most_by_row terms (row_at program.rows number)

-- the most that a sum's terms are shown to count
abbrev pub high_count : Program → List Domain → Sum → Option ℤ
high_count program ranges sum = most_count program ranges sum.high sum.terms

-- the most that the opposites of a sum's terms are shown to count
abbrev pub low_count : Program → List Domain → Sum → Option ℤ
low_count program ranges sum = most_count program ranges sum.low (opposites sum.terms)

-- a sum is shown: either side of its count is, its least value is not below 0, and its greatest is that of a byte
pub record IsShown (program : Program) (ranges : List Domain) (sum : Sum) : Type 0 where
  pub low : MatchOption (low_count program ranges sum) ⊥ (λ count. pos 0 ≤ℤ value_at sum (neg_ℤ count))
  pub high : MatchOption (high_count program ranges sum) ⊥ (λ count. IsByte (value_at sum count))

-- the greatest value of a sum whose terms are shown to count at most so much, and 0 where nothing is shown
abbrev pub value_up_to : Sum → Option ℤ → ℕ
value_up_to sum None = 0
value_up_to sum (Some count) = unsigned_abs (value_at sum count)

-- the greatest value that a sum is shown to have
abbrev pub most_value : Program → List Domain → Sum → ℕ
most_value program ranges sum = value_up_to sum (high_count program ranges sum)
