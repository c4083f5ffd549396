-- What a row shows: its entries are terms times a whole number, and its limit is divided by that number.
use Rattle.std.proofs.Common.{◌≡◌, ℕ, ◌/◌, ◌≤◌, Bool, true, false, cond, leb, eqb, ◌&&◌, List, [], ◌∷◌, map, refl, sym, ap, ap₂, ◌∙◌, subst, arith, ◌↔◌, Option, Some, None, ℤ, pos, ◌*ℤ◌, unsigned_abs, true≢false, eq-zero-or-pos, inl, inr}
use Rattle.std.specs.Int.{int_div_euclid}
use Rattle.std.specs.Ordering.{int_eq}
use Rattle.std.proofs.Math.Nat.{mul-div_cancel}
use Rattle.std.proofs.lemmas.Bool.{and_from, and_parts, eq-eqb, eqb-true, le-leb, leb-true}
use Rattle.std.proofs.lemmas.Bool.Decides.{Decides-int_eq}
use Rattle.std.proofs.lemmas.Int.{ints, unsigned_abs-mul}
use Rattle.std.proofs.lemmas.List.Elements.{All-head}
use Rattle.row_kit.specs.declared.row.Entry.{Entry}
use Rattle.row_kit.specs.declared.row.Row.{Row}
use Rattle.row_kit.specs.Row.{is_nothing}
use Rattle.sum_slots.specs.Shown.{are_multiples, factor_of, is_multiple, most_by_row, quotient_of}
use Rattle.sum_slots.proofs.Quotients.{quotient_above, quotient_below, quotient_is}
use Rattle.sum_choice.specs.laws.Shown.{AreTerms, BoundsByRow, IsFloor, times}

same_entry : (a b : Entry) → a.slot ≡ b.slot → a.fixed ≡ b.fixed → a.per ≡ b.per → a ≡ b
same_entry a b slot fixed per =
    let one : a ≡ record { slot = b.slot; fixed = b.fixed; per = a.per } = ap₂ (λ (s : ℕ) (f : ℤ). record { slot = s; fixed = f; per = a.per }) slot fixed in
    one ∙ ap (λ (p : ℤ). record { slot = b.slot; fixed = b.fixed; per = p }) per

-- an entry that is tested to be a multiple is one
multiple_is : (k : ℕ) (term entry : Entry) → is_multiple k term entry ≡ true → entry ≡ times k term
multiple_is k term entry is =
    let two = and_parts (eqb entry.slot term.slot && int_eq entry.fixed (pos k *ℤ term.fixed)) (int_eq entry.per (pos k *ℤ term.per)) is in
    let one = and_parts (eqb entry.slot term.slot) (int_eq entry.fixed (pos k *ℤ term.fixed)) two.0 in
    same_entry entry (times k term) (eqb-true entry.slot term.slot one.0)
    ((Decides-int_eq entry.fixed (pos k *ℤ term.fixed)).0 one.1) ((Decides-int_eq entry.per (pos k *ℤ term.per)).0 two.1)

multiples_are : (k : ℕ) (terms entries : List Entry) → are_multiples k terms entries ≡ true → entries ≡ map (times k) terms
multiples_are k [] [] is = refl
multiples_are k [] (e ∷ es) is = absurd (cc)
multiples_are k (t ∷ ts) [] is = absurd (cc)
multiples_are k (t ∷ ts) (e ∷ es) is =
    let both = and_parts (is_multiple k t e) (are_multiples k ts es) is in
    ap₂ (λ (x : Entry) (xs : List Entry). x ∷ xs) (multiple_is k t e both.0) (multiples_are k ts es both.1)

-- and the multiples of terms are tested to be such
multiples_pass : (k : ℕ) (terms : List Entry) → are_multiples k terms (map (times k) terms) ≡ true
multiples_pass k [] = refl
multiples_pass k (t ∷ ts) =
    let slot : eqb t.slot t.slot ≡ true = eq-eqb t.slot t.slot refl in
    let fixed = (Decides-int_eq (pos k *ℤ t.fixed) (pos k *ℤ t.fixed)).1 refl in
    let per = (Decides-int_eq (pos k *ℤ t.per) (pos k *ℤ t.per)).1 refl in
    and_from (is_multiple k t (times k t)) (are_multiples k ts (map (times k) ts))
    (and_from (eqb t.slot t.slot && int_eq (pos k *ℤ t.fixed) (pos k *ℤ t.fixed)) (int_eq (pos k *ℤ t.per) (pos k *ℤ t.per))
    (and_from (eqb t.slot t.slot) (int_eq (pos k *ℤ t.fixed) (pos k *ℤ t.fixed)) slot fixed) per)
    (multiples_pass k ts)

-- a multiple of a number that is not 0, divided by it
divided : (k : ℕ) (part : ℤ) → 1 ≤ unsigned_abs part → unsigned_abs (pos k *ℤ part) / unsigned_abs part ≡ k
divided k part some = ap (λ (n : ℕ). n / unsigned_abs part) (unsigned_abs-mul (pos k) part) ∙ mul-div_cancel k (omega (arith, some))

-- the quotient of a multiple by a term that counts something is the factor
quotient_of_times : (k : ℕ) (term : Entry) → is_nothing (term.fixed, term.per) ≡ false → quotient_of term (times k term) ≡ k
quotient_of_times k term counts = by_test (int_eq term.fixed (pos 0)) refl
  where
    not_zero : (part : ℤ) → int_eq part (pos 0) ≡ false → 1 ≤ unsigned_abs part
    not_zero part is =
        elim (eq-zero-or-pos (unsigned_abs part)) [
          | inl none ↦ absurd (true≢false (sym ((Decides-int_eq part (pos 0)).1 (omega (arith, ints, none))) ∙ is))
          | inr some ↦ omega (arith, some)
        ]

    by_test : (t : Bool) → int_eq term.fixed (pos 0) ≡ t
        → cond t (unsigned_abs (pos k *ℤ term.per) / unsigned_abs term.per) (unsigned_abs (pos k *ℤ term.fixed) / unsigned_abs term.fixed) ≡ k
    by_test true is = divided k term.per (not_zero term.per (sym (ap (λ (b : Bool). b && int_eq term.per (pos 0)) is) ∙ counts))
    by_test false is = divided k term.fixed (not_zero term.fixed is)

-- the factor of multiples of terms
factor_of_times : (k : ℕ) (terms : List Entry) → AreTerms terms → factor_of terms (map (times k) terms) ≡ k
factor_of_times k [] are = absurd (omega (arith, are.some))
factor_of_times k (t ∷ ts) are = quotient_of_times k t (All-head (λ (term : Entry). is_nothing (term.fixed, term.per) ≡ false) t ts are.count)

-- the number of a bound
abbrev pub number_of : Option ℤ → ℤ
number_of None = pos 0
number_of (Some number) = number

-- what is shown is a bound by the row
to_bound : (terms : List Entry) (row : Row) (most : ℤ) → most_by_row terms row ≡ Some most → BoundsByRow terms row most
to_bound terms row most shown = by_test (leb 1 k && are_multiples k terms row.entries) refl shown
  where
    k : ℕ
    k = factor_of terms row.entries

    quotient : ℤ
    quotient = int_div_euclid row.limit (pos k)

    by_test : (t : Bool) → (leb 1 k && are_multiples k terms row.entries) ≡ t → cond t (Some quotient) None ≡ Some most → BoundsByRow terms row most
    by_test false is e = absurd (cc)
    by_test true is e =
        let both = and_parts (leb 1 k) (are_multiples k terms row.entries) is in
        let some : 1 ≤ k = leb-true 1 k both.0 in
        record {
          factor = k;
          some = some;
          entries = multiples_are k terms row.entries both.1;
          floor = subst (λ (x : ℤ). IsFloor k row.limit x) (ap number_of e) (quotient_below k row.limit some, quotient_above k row.limit some);
        }

-- and a bound by the row is shown
pass : (terms entries : List Entry) (limit most : ℤ) (f k : ℕ) → f ≡ k → 1 ≤ k → are_multiples k terms entries ≡ true → IsFloor k limit most
    → cond (leb 1 f && are_multiples f terms entries) (Some (int_div_euclid limit (pos f))) None ≡ Some most
pass terms entries limit most f k same some multiples floor =
    ap (λ (n : ℕ). cond (leb 1 n && are_multiples n terms entries) (Some (int_div_euclid limit (pos n))) None) same
    ∙ ap (λ (b : Bool). cond b (Some (int_div_euclid limit (pos k))) None) (and_from (leb 1 k) (are_multiples k terms entries) (le-leb 1 k some) multiples)
    ∙ ap (λ (x : ℤ). Some x) (sym (quotient_is k limit most some floor.0 floor.1))

from_bound : (terms : List Entry) (row : Row) (most : ℤ) → AreTerms terms → BoundsByRow terms row most → most_by_row terms row ≡ Some most
from_bound terms row most are bound =
    let k = bound.factor in
    pass terms row.entries row.limit most (factor_of terms row.entries) k
    (ap (factor_of terms) bound.entries ∙ factor_of_times k terms are) bound.some
    (ap (are_multiples k terms) bound.entries ∙ multiples_pass k terms) bound.floor

pub rows_show : (terms : List Entry) (row : Row) (most : ℤ) → AreTerms terms → (most_by_row terms row ≡ Some most) ↔ BoundsByRow terms row most
rows_show terms row most are = (to_bound terms row most, from_bound terms row most are)
