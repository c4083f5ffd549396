-- A sum is shown exactly where both its sides are bounded and its values lie within a byte.
use Rattle.std.proofs.Common.{◌≡◌, ℕ, ◌*◌, ◌≤◌, true, false, List, [], ◌∷◌, length, get_or, refl, sym, ap, ap₂, ◌∙◌, subst, arith, inl, inr, ◌↔◌, Option, Some, None, ℤ, pos, neg_ℤ, ◌+ℤ◌, ◌*ℤ◌, ◌≤ℤ◌, ◌<ℤ◌, unsigned_abs, true≢false}
use Rattle.std.specs.Int.{int_div_euclid}
use Rattle.std.specs.List.{All}
use Rattle.std.specs.Ordering.{int_eq}
use Rattle.std.specs.Prelude.{MatchOption}
use Rattle.std.proofs.lemmas.Bool.{and_from, and_parts, cases_Bool, cases_lt}
use Rattle.std.proofs.lemmas.Bool.Decides.{Decides-int_eq}
use Rattle.std.proofs.lemmas.Int.{by_lt_z, ints}
use Rattle.std.proofs.lemmas.List.{get_or_past, length-map}
use Rattle.std.proofs.lemmas.List.Elements.{All-map}
use Rattle.std.proofs.Math.IntN.{pos-*ℤ-pos}
use Rattle.row_kit.specs.declared.domain.Domain.{Domain}
use Rattle.row_kit.specs.declared.program.Program.{Program}
use Rattle.row_kit.specs.declared.row.Entry.{Entry}
use Rattle.row_kit.specs.Domain.{IsNormal, domain_at, no_values}
use Rattle.row_kit.specs.Row.{is_nothing, row_at}
use Rattle.dual_bound.proofs.Signed.{mul_le}
use Rattle.sum_slots.specs.declared.sum.Sum.{Sum}
use Rattle.sum_slots.specs.Shown.{IsShown, greatest_sum, high_count, low_count, most_count, most_value, opposites, turned, value_up_to}
use Rattle.sum_slots.specs.Sum.{IsByte, IsDeclared, value_at}
use Rattle.sum_slots.proofs.Quotients.{quotient_above, quotient_at_least, quotient_below}
use Rattle.sum_choice.specs.laws.Shown.{AreTerms, Bounds, IsFloor, IsShownBetween, ShownLaw, greatest_over}
use Rattle.sum_choice.proofs.DomainBounds.{domains_show}
use Rattle.sum_choice.proofs.RowBounds.{number_of, rows_show}

-- each slot's domain is normal, also where there is no such slot
normal_at : (ranges : List Domain) (slot : ℕ) → All IsNormal ranges → IsNormal (domain_at ranges slot)
normal_at ranges slot normal =
    elim (cases_lt slot (length ranges)) [
      | inl there ↦ normal slot no_values there
      | inr past ↦ subst IsNormal (sym (get_or_past ranges slot no_values past)) (record { positive = omega arith; byte = omega arith; bare = λ less. (refl, refl) })
    ]

-- the sum of what terms count at most is that of the greatest
greatest_sums : (ranges : List Domain) (terms : List Entry) → All IsNormal ranges → greatest_sum terms ranges ≡ greatest_over ranges terms
greatest_sums ranges [] normal = refl
greatest_sums ranges (t ∷ ts) normal =
    ap₂ (λ (x y : ℤ). x +ℤ y) (domains_show t (domain_at ranges t.slot) (normal_at ranges t.slot normal)) (greatest_sums ranges ts normal)

pub sides_show : (program : Program) (ranges : List Domain) (by : Option ℕ) (terms : List Entry) (most : ℤ) → All IsNormal ranges → AreTerms terms
    → (most_count program ranges by terms ≡ Some most) ↔ Bounds program ranges by terms most
sides_show program ranges None terms most normal are = (
  λ shown. sym (ap number_of shown) ∙ greatest_sums ranges terms normal,
  λ bound. ap (λ (x : ℤ). Some x) (greatest_sums ranges terms normal ∙ sym bound),
)
sides_show program ranges (Some number) terms most normal are = rows_show terms (row_at program.rows number) most are

-- the opposites of terms count something too
opposite_counts : (term : Entry) → is_nothing (term.fixed, term.per) ≡ false → is_nothing (neg_ℤ term.fixed, neg_ℤ term.per) ≡ false
opposite_counts term counts = elim (cases_Bool (is_nothing (neg_ℤ term.fixed, neg_ℤ term.per))) [
  | inl nothing ↦
      let both = and_parts (int_eq (neg_ℤ term.fixed) (pos 0)) (int_eq (neg_ℤ term.per) (pos 0)) nothing in
      let fixed : term.fixed ≡ pos 0 = omega (arith, ints, (Decides-int_eq (neg_ℤ term.fixed) (pos 0)).0 both.0) in
      let per : term.per ≡ pos 0 = omega (arith, ints, (Decides-int_eq (neg_ℤ term.per) (pos 0)).0 both.1) in
      absurd (true≢false (sym (and_from (int_eq term.fixed (pos 0)) (int_eq term.per (pos 0)) ((Decides-int_eq term.fixed (pos 0)).1 fixed) ((Decides-int_eq term.per (pos 0)).1 per)) ∙ counts))
  | inr counts_too ↦ counts_too
]

opposites_are : (terms : List Entry) → AreTerms terms → AreTerms (opposites terms)
opposites_are terms are = record {
  some = omega (arith, are.some, length-map terms (turned true));
  count = All-map (λ (term : Entry). is_nothing (term.fixed, term.per) ≡ false) (turned true) terms
      (λ k d less. opposite_counts (get_or terms k d) (are.count k d less));
}

declared_terms : (slots : ℕ) (sum : Sum) → IsDeclared slots sum → AreTerms sum.terms
declared_terms slots sum declared = record { some = declared.terms_some; count = declared.terms_count }

-- a quotient is 0 or more exactly where its number is
from_zero : (width : ℕ) (number : ℤ) → 1 ≤ width → (pos 0 ≤ℤ int_div_euclid number (pos width)) ↔ (pos 0 ≤ℤ number)
from_zero width number some =
    let none : pos width *ℤ pos 0 ≡ pos 0 = omega (arith, ints, pos-*ℤ-pos width 0) in (
      λ not_below. omega (arith, ints, none, mul_le width (pos 0) (int_div_euclid number (pos width)) not_below, quotient_below width number some),
      λ not_below. quotient_at_least width number (pos 0) some (omega (arith, ints, none, not_below)),
    )

-- a quotient is at most 255 exactly where its number is below 256 divisors
to_byte : (width : ℕ) (number : ℤ) → 1 ≤ width → (int_div_euclid number (pos width) ≤ℤ pos 255) ↔ (number <ℤ pos (256 * width))
to_byte width number some =
    let q = int_div_euclid number (pos width) in
    let most : pos width *ℤ pos 256 ≡ pos (256 * width) = omega (arith, ints, pos-*ℤ-pos width 256) in (
      λ small. omega (arith, ints, most, mul_le width (q +ℤ pos 1) (pos 256) (omega (arith, ints, small)), quotient_above width number some),
      λ small. by_lt_z (pos 255) q
          (λ over. absurd (omega (arith, ints, most, small, mul_le width (pos 256) q (omega (arith, ints, over)), quotient_below width number some)))
          (λ within. within),
    )

-- what holds of a number that is there
match_to : {P : ℤ → Type 0} (count : Option ℤ) → MatchOption count ⊥ P → (most : ℤ) × (count ≡ Some most) × P most
match_to None shown = absurd shown
match_to (Some most) shown = (most, refl, shown)

match_from : (P : ℤ → Type 0) (count : Option ℤ) (most : ℤ) → count ≡ Some most → P most → MatchOption count ⊥ P
match_from P count most is holds = subst (λ (o : Option ℤ). MatchOption o ⊥ P) (sym is) holds

to_between : (program : Program) (ranges : List Domain) (slots : ℕ) (sum : Sum) → All IsNormal ranges → IsDeclared slots sum → IsShown program ranges sum → IsShownBetween program ranges sum
to_between program ranges slots sum normal declared shown =
    let terms = declared_terms slots sum declared in
    let low = match_to {P = λ count. pos 0 ≤ℤ value_at sum (neg_ℤ count)} (low_count program ranges sum) shown.low in
    let high = match_to {P = λ count. IsByte (value_at sum count)} (high_count program ranges sum) shown.high in
    record {
      low = low.0;
      high = high.0;
      low_bound = (sides_show program ranges sum.low (opposites sum.terms) low.0 normal (opposites_are sum.terms terms)).0 low.1;
      high_bound = (sides_show program ranges sum.high sum.terms high.0 normal terms).0 high.1;
      not_below = omega (arith, ints, (from_zero sum.width (sum.offset +ℤ neg_ℤ low.0) declared.width_some).0 low.2);
      some = (from_zero sum.width (sum.offset +ℤ high.0) declared.width_some).0 high.2.0;
      byte = (to_byte sum.width (sum.offset +ℤ high.0) declared.width_some).0 high.2.1;
    }

from_between : (program : Program) (ranges : List Domain) (slots : ℕ) (sum : Sum) → All IsNormal ranges → IsDeclared slots sum → IsShownBetween program ranges sum → IsShown program ranges sum
from_between program ranges slots sum normal declared between =
    let terms = declared_terms slots sum declared in
    let some = declared.width_some in
    let low = (sides_show program ranges sum.low (opposites sum.terms) between.low normal (opposites_are sum.terms terms)).1 between.low_bound in
    let high = (sides_show program ranges sum.high sum.terms between.high normal terms).1 between.high_bound in
    record {
      low = match_from (λ count. pos 0 ≤ℤ value_at sum (neg_ℤ count)) (low_count program ranges sum) between.low low
          ((from_zero sum.width (sum.offset +ℤ neg_ℤ between.low) some).1 (omega (arith, ints, between.not_below)));
      high = match_from (λ count. IsByte (value_at sum count)) (high_count program ranges sum) between.high high
          ((from_zero sum.width (sum.offset +ℤ between.high) some).1 between.some, (to_byte sum.width (sum.offset +ℤ between.high) some).1 between.byte);
    }

-- the greatest value of a sum that is shown
most_is : (program : Program) (ranges : List Domain) (slots : ℕ) (sum : Sum) → All IsNormal ranges → IsDeclared slots sum
    → (shown : IsShownBetween program ranges sum) → IsFloor sum.width (sum.offset +ℤ shown.high) (pos (most_value program ranges sum))
most_is program ranges slots sum normal declared shown =
    let terms = declared_terms slots sum declared in
    let some = declared.width_some in
    let total = sum.offset +ℤ shown.high in
    let quotient = int_div_euclid total (pos sum.width) in
    let high = (sides_show program ranges sum.high sum.terms shown.high normal terms).1 shown.high_bound in
    let same : most_value program ranges sum ≡ unsigned_abs quotient = ap (value_up_to sum) high in
    let from : pos 0 ≤ℤ quotient = (from_zero sum.width total some).1 shown.some in
    let is : quotient ≡ pos (most_value program ranges sum) = omega (arith, ints, same, from) in
    subst (λ (x : ℤ). IsFloor sum.width total x) is (quotient_below sum.width total some, quotient_above sum.width total some)

pub shown_law : ShownLaw
shown_law = record {
  domains = domains_show;
  rows = rows_show;
  sides = sides_show;
  sums = λ program ranges slots sum normal declared. (to_between program ranges slots sum normal declared, from_between program ranges slots sum normal declared);
  most = most_is;
}
