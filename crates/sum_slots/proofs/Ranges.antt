-- At a lawful point the value of a shown sum lies in its range.
use Rattle.std.proofs.Common.{◌≡◌, ℕ, ◌<◌, ◌≤◌, Bool, true, false, cond, leb, ◌&&◌, List, [], ◌∷◌, length, map, get_or, refl, sym, ◌∙◌, subst, arith, ⊎_elim, Option, Some, None, ℤ, pos, neg_ℤ, ◌+ℤ◌, ◌≤ℤ◌, unsigned_abs}
use Rattle.std.specs.Int.{int_div_euclid}
use Rattle.std.specs.List.{All}
use Rattle.std.specs.Prelude.{MatchOption}
use Rattle.std.proofs.lemmas.Bool.{and_parts, cases_lt}
use Rattle.std.proofs.lemmas.Bool.Decides.{nat_tests}
use Rattle.std.proofs.lemmas.Int.{ints}
use Rattle.std.proofs.lemmas.List.{get_or-map, get_or_past, length-map}
use Rattle.std.proofs.lemmas.List.Elements.{All-map}
use Rattle.row_kit.specs.declared.domain.Domain.{Domain}
use Rattle.row_kit.specs.declared.program.Program.{Program}
use Rattle.row_kit.specs.declared.row.Entry.{Entry}
use Rattle.row_kit.specs.declared.row.Row.{Row}
use Rattle.row_kit.specs.Domain.{Holds, no_values}
use Rattle.row_kit.specs.Point.{IsLawful, LiesIn}
use Rattle.row_kit.specs.Row.{IsKept, entries_sum, no_row, row_at}
use Rattle.sum_slots.specs.declared.sum.Sum.{Sum}
use Rattle.sum_slots.specs.Larger.{sum_domain}
use Rattle.sum_slots.specs.Shown.{AreRanges, IsShown, are_multiples, factor_of, high_count, low_count, most_by_row, most_count, most_value, opposites, value_up_to, turned}
use Rattle.sum_slots.specs.Sum.{IsByte, IsDeclared, sum_value, value_at}
use Rattle.sum_slots.proofs.EntrySums.{sum-le-greatest, sum-multiples, sum-opposites}
use Rattle.sum_slots.proofs.Quotients.{quotient_at_least, quotient_rises}

-- a sum for a place where there is none
abbrev pub no_sum : Sum
no_sum = record { width = 1; offset = pos 0; low = None; high = None; terms = [] }

-- the points of a program lie in the domains of its root
pub own-ranges : (program : Program) → AreRanges program program.root
own-ranges program = record { same_length = refl; normal = program.root_normal; hold = λ point lies. lies }

-- terms count at most what they are shown to
abbrev IsMost : Option ℤ → ℤ → Type 0
IsMost None count = Unit {0}
IsMost (Some most) count = count ≤ℤ most

most_kept : (terms : List Entry) (row : Row) (point : List ℕ) → IsKept point row → IsMost (most_by_row terms row) (entries_sum terms point)
most_kept terms row point kept = by_test (leb 1 k && are_multiples k terms row.entries) refl
  where
    k : ℕ
    k = factor_of terms row.entries

    by_test : (t : Bool) → (leb 1 k && are_multiples k terms row.entries) ≡ t → IsMost (cond t (Some (int_div_euclid row.limit (pos k))) None) (entries_sum terms point)
    by_test false is = tt
    by_test true is =
        let both = and_parts (leb 1 k) (are_multiples k terms row.entries) is in
        quotient_at_least k row.limit (entries_sum terms point) (grind (arith, nat_tests, both.0)) (omega (arith, ints, sum-multiples k terms row.entries point both.1, kept))

-- a row that is not there shows nothing
most_nothing : (terms : List Entry) (count : ℤ) → IsMost (most_by_row terms no_row) count
most_nothing [] count = tt
most_nothing (t ∷ ts) count = tt

most_holds : (program : Program) (ranges : List Domain) (by : Option ℕ) (terms : List Entry) (point : List ℕ) → AreRanges program ranges → All (λ e. e.slot < length program.root) terms → IsLawful program point → IsMost (most_count program ranges by terms) (entries_sum terms point)
most_holds program ranges None terms point wide named lawful =
    sum-le-greatest terms ranges point (λ k d lt. (wide.normal k d lt).positive) (λ k d lt. omega (arith, named k d lt, wide.same_length)) (wide.hold point lawful.lies)
most_holds program ranges (Some number) terms point wide named lawful =
    ⊎_elim
    (λ (there : number < length program.rows). most_kept terms (row_at program.rows number) point (lawful.keeps number no_row there))
    (λ (past : length program.rows ≤ number). subst (λ (row : Row). IsMost (most_by_row terms row) (entries_sum terms point)) (sym (get_or_past program.rows number no_row past)) (most_nothing terms (entries_sum terms point)))
    (cases_lt number (length program.rows))

-- a sum's value rises with what its terms count
value_rises : (sum : Sum) (m n : ℤ) → 1 ≤ sum.width → m ≤ℤ n → value_at sum m ≤ℤ value_at sum n
value_rises sum m n some le = quotient_rises sum.width (sum.offset +ℤ m) (sum.offset +ℤ n) some (omega (arith, ints, le))

not_below : (sum : Sum) (most : Option ℤ) (count : ℤ) → 1 ≤ sum.width → MatchOption most ⊥ (λ m. pos 0 ≤ℤ value_at sum (neg_ℤ m)) → IsMost most (neg_ℤ count) → pos 0 ≤ℤ value_at sum count
not_below sum None count some shown holds = absurd shown
not_below sum (Some m) count some shown holds = omega (arith, ints, shown, value_rises sum (neg_ℤ m) count some (omega (arith, ints, holds)))

not_above : (sum : Sum) (most : Option ℤ) (count : ℤ) → 1 ≤ sum.width → MatchOption most ⊥ (λ m. IsByte (value_at sum m)) → IsMost most count → (value_at sum count ≤ℤ pos (value_up_to sum most)) × (value_up_to sum most ≤ 255)
not_above sum None count some shown holds = absurd shown
not_above sum (Some m) count some shown holds =
    let rises = value_rises sum count m some holds in (omega (arith, ints, shown.0, rises), omega (arith, ints, shown.0, shown.1))

-- the greatest value of a shown sum is that of a byte
pub most_byte : (program : Program) (ranges : List Domain) (sum : Sum) → IsShown program ranges sum → most_value program ranges sum ≤ 255
most_byte program ranges sum shown = by_most (high_count program ranges sum) shown.high
  where
    by_most : (most : Option ℤ) → MatchOption most ⊥ (λ m. IsByte (value_at sum m)) → value_up_to sum most ≤ 255
    by_most None none = absurd none
    by_most (Some m) byte = omega (arith, ints, byte.0, byte.1)

-- the value of a shown sum at a lawful point is not below 0, and at most its greatest value
pub value_ranges : (program : Program) (ranges : List Domain) (sum : Sum) (point : List ℕ) → AreRanges program ranges → IsDeclared (length program.root) sum → IsShown program ranges sum → IsLawful program point → (pos 0 ≤ℤ sum_value sum point) × (sum_value sum point ≤ℤ pos (most_value program ranges sum))
value_ranges program ranges sum point wide declared shown lawful =
    let count = entries_sum sum.terms point in
    let named = declared.terms_bounded.named in
    let turned_named : All (λ e. e.slot < length program.root) (opposites sum.terms) = All-map (λ e. e.slot < length program.root) (turned true) sum.terms named in
    let most = most_holds program ranges sum.low (opposites sum.terms) point wide turned_named lawful in (
      not_below sum (low_count program ranges sum) count declared.width_some shown.low (subst (IsMost (low_count program ranges sum)) (sum-opposites sum.terms point) most),
      (not_above sum (high_count program ranges sum) count declared.width_some shown.high (most_holds program ranges sum.high sum.terms point wide named lawful)).0,
    )

pub value_byte : (program : Program) (ranges : List Domain) (sum : Sum) (point : List ℕ) → AreRanges program ranges → IsDeclared (length program.root) sum → IsShown program ranges sum → IsLawful program point → IsByte (sum_value sum point)
value_byte program ranges sum point wide declared shown lawful =
    let between = value_ranges program ranges sum point wide declared shown lawful in (between.0, omega (arith, ints, between.1, most_byte program ranges sum shown))

-- the slots of sums hold their values
pub sums_lie : (program : Program) (ranges : List Domain) (sums : List Sum) (point : List ℕ) → AreRanges program ranges → All (IsDeclared (length program.root)) sums → All (IsShown program ranges) sums → IsLawful program point → LiesIn (map (sum_domain program ranges) sums) (map (λ sum. unsigned_abs (sum_value sum point)) sums)
sums_lie program ranges sums point wide declared shown lawful = record {
  same_length = length-map sums (λ sum. unsigned_abs (sum_value sum point)) ∙ sym (length-map sums (sum_domain program ranges));
  held = λ k lt.
      let in' : k < length sums = omega (arith, lt, length-map sums (sum_domain program ranges)) in
      let sum = get_or sums k no_sum in
      subst (λ (d : Domain). Holds d (get_or (map (λ s. unsigned_abs (sum_value s point)) sums) k 0)) (sym (get_or-map (sum_domain program ranges) sums k no_sum no_values in'))
      (subst (Holds (sum_domain program ranges sum)) (sym (get_or-map (λ s. unsigned_abs (sum_value s point)) sums k no_sum 0 in'))
      (let between = value_ranges program ranges sum point wide (declared k no_sum in') (shown k no_sum in') lawful in
      record { at_zero = λ _. refl; above_zero = λ some. (some, omega (arith, ints, between.0, between.1)) }));
}
