-- What is written of a fraction, and what is read of it.
use Rattle.std.proofs.Common.{◌≡◌, ◌≢◌, ℕ, ◌<◌, ◌≤◌, ◌^◌, Bool, true, false, ◌&&◌, nat_le, eqb, if◌then◌else◌, Option, Some, None, MatchOption, option_and_then, List, ◌∷◌, ◌++◌, length, decimal, le-leb, sym, ap, ◌∙◌, refl, arith}
use Rattle.std.specs.List.{before_first, after_first}
use Rattle.std.proofs.lemmas.Bool.Decides.{nat_tests}
use Rattle.std.proofs.lemmas.Fmt.{decimal_injective, decimal_nonempty}
use Rattle.text_words.specs.Numbers.{IsNumberBelow}
use Rattle.text_words.proofs.Cuts.{cut_first, cut_rejoins, there-after}
use Rattle.text_words.proofs.Printed.{number_below-printed, number_below-decimal, decimal-lacks}
use Rattle.fraction.specs.declared.fraction_of.Fraction.{Fraction}
use Rattle.fraction.specs.Fractions.{IsProper, fraction_text, fraction_in, proper}

-- the answer is the fraction that is written as the text, and none where the text is what is written of none
abbrev pub IsWrittenAs : List ℕ → Option Fraction → Type 0
IsWrittenAs text answer = MatchOption answer ((f : Fraction) → IsProper f → text ≢ fraction_text f) (λ f. IsProper f × (text ≡ fraction_text f))

-- the parts of what is written of a fraction
cut_written : (f : Fraction) → IsProper f → (before_first (λ b. eqb b 47) (fraction_text f) ≡ decimal f.over) × (after_first (λ b. eqb b 47) (fraction_text f) ≡ decimal f.under)
cut_written f is_proper = cut_first (λ b. eqb b 47) (decimal f.over) 47 (decimal f.under) (decimal-lacks f.over 47 (omega (arith, is_proper.most, is_proper.small)) (λ r. omega arith)) refl

-- a choice, by what it tells
by_choice : (text : List ℕ) (b : Bool) (f : Fraction) → (b ≡ true → IsProper f × (text ≡ fraction_text f)) → (b ≡ false → (g : Fraction) → IsProper g → text ≢ fraction_text g) → IsWrittenAs text (if b then Some f else None)
by_choice text true f taken left = taken refl
by_choice text false f taken left = left refl

-- the test of two terms tells whether they make a fraction
test_tells : (over under : ℕ) → (nat_le 1 over && nat_le over under) ≡ true → (1 ≤ over) × (over ≤ under)
test_tells over under is = (grind (arith, nat_tests), grind (arith, nat_tests))

test_fails : (over under : ℕ) → (nat_le 1 over && nat_le over under) ≡ false → 1 ≤ over → over ≤ under → ⊥
test_fails over under is some most = grind (arith, nat_tests)

-- what the terms before and after the slash say of the fraction
terms_written : (text : List ℕ) (o u : Option ℕ) → IsNumberBelow 10001 (before_first (λ b. eqb b 47) text) o → IsNumberBelow 10001 (after_first (λ b. eqb b 47) text) u
    → IsWrittenAs text (option_and_then (λ over. option_and_then (proper over) u) o)
terms_written text None u is_over is_under = λ f is_proper written.
    is_over f.over (omega (arith, is_proper.most, is_proper.small)) (ap (before_first (λ b. eqb b 47)) written ∙ (cut_written f is_proper).0)
terms_written text (Some over) None is_over is_under = λ f is_proper written.
    is_under f.under (omega (arith, is_proper.small)) (ap (after_first (λ b. eqb b 47)) written ∙ (cut_written f is_proper).1)
terms_written text (Some over) (Some under) is_over is_under =
    let slash : ℕ → Bool = λ b. eqb b 47 in
    let fits : under < 2 ^ 64 = omega (arith, is_under.0) in
    let there = there-after slash text (omega (arith, ap length is_under.1, decimal_nonempty under fits)) in
    let joined : text ≡ decimal over ++ 47 ∷ decimal under = cut_rejoins 47 text there ∙ ap (λ (x : List ℕ). x ++ 47 ∷ after_first slash text) is_over.1 ∙ ap (λ (x : List ℕ). decimal over ++ 47 ∷ x) is_under.1 in
    by_choice text (nat_le 1 over && nat_le over under) (record { over = over; under = under })
    (λ is. (record { some = (test_tells over under is).0; most = (test_tells over under is).1; small = omega (arith, is_under.0) }, joined))
    (λ is f is_proper written.
    let same_over : over ≡ f.over = decimal_injective over f.over (omega (arith, is_over.0)) (omega (arith, is_proper.most, is_proper.small)) (sym is_over.1 ∙ ap (before_first slash) written ∙ (cut_written f is_proper).0) in
    let same_under : under ≡ f.under = decimal_injective under f.under fits (omega (arith, is_proper.small)) (sym is_under.1 ∙ ap (after_first slash) written ∙ (cut_written f is_proper).1) in
    test_fails over under is (omega (arith, is_proper.some)) (omega (arith, is_proper.most)))

-- `fraction_in` gives the fraction that is written as the text
pub IsWrittenAs-fraction_in : (text : List ℕ) (answer : Option Fraction) → answer ≡ fraction_in text → IsWrittenAs text answer
unfolding fraction_in
IsWrittenAs-fraction_in text answer is =
    rw is (terms_written text _ _ (number_below-printed 10001 _ (omega arith) _ refl) (number_below-printed 10001 _ (omega arith) _ refl))

-- what is written of a fraction is read as it
pub fraction_in-text : (f : Fraction) → IsProper f → fraction_in (fraction_text f) ≡ Some f
unfolding fraction_in
fraction_in-text f is_proper =
    let cut = cut_written f is_proper in
    let over = number_below-decimal 10001 f.over (omega arith) (omega (arith, is_proper.most, is_proper.small)) in
    let under = number_below-decimal 10001 f.under (omega arith) (omega (arith, is_proper.small)) in
    rw (cut.0, cut.1, over, under, le-leb 1 f.over is_proper.some, le-leb f.over f.under is_proper.most) refl
