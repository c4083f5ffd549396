-- Words that numbers are printed as.
use Rattle.std.proofs.Common.{◌≡◌, ◌≢◌, ℕ, ℤ, pos, negsuc, suc, ◌<◌, ◌≤◌, ◌^◌, List, ◌∷◌, get_or, decimal, unsigned_abs, drop, sym, ap, ◌∙◌, arith}
use Rattle.std.specs.Fmt.{signed_decimal}
use Rattle.std.proofs.lemmas.Bool.Decides.{nat_tests}
use Rattle.log_lines.proofs.SignedNumbers.{plain_first}
use Rattle.log_lines.proofs.NumberTexts.{wide_same}
use mir.Syntax.{w128}
use mir.Val.{to_z, of_z}
use Rattle.text_words.proofs.Digits.{decimal_injective_wide}

-- no minus is printed of a number without sign
pub no_minus : (n : ℕ) (digits : List ℕ) → n < 10 ^ 64 → 45 ∷ digits ≢ decimal n
no_minus n digits small is =
    let plain = plain_first n small in
    let first : get_or (decimal n) 0 0 ≡ 45 = ap (λ w. get_or w 0 0) (sym is) in
    grind (arith, nat_tests)

-- what 0 is printed as is printed of no number of 1 or more
pub not_zero : (number limit x : ℕ) (word : List ℕ) → limit ≤ 10 ^ 30 → word ≡ decimal number → number < 1 → 1 ≤ x → x < limit → word ≢ decimal x
not_zero number limit x word few is zero some small same =
    omega (arith, decimal_injective_wide number x (omega arith) (omega arith) (sym is ∙ same))

-- what follows a minus is printed of a number of 1 or more, where it is printed of a number with the minus
pub no_negative : (limit : ℕ) (digits : List ℕ) → limit ≤ 10 ^ 30 → ((n : ℕ) → (1 ≤ n) × (n < limit) → digits ≢ decimal n) → (x : ℤ) → unsigned_abs x < limit → 45 ∷ digits ≢ signed_decimal x
no_negative limit digits few none (pos n) small is = no_minus n digits (omega arith) is
no_negative limit digits few none (negsuc m) small is = none (suc m) (omega arith, omega arith) (ap (drop 1) is)

-- a small number whose code is 0 is 0
pub zero_is : (x : ℤ) → unsigned_abs x ≤ 10000000 → of_z w128 x ≡ 0 → x ≡ pos 0
zero_is x small is = sym (wide_same x (omega arith)) ∙ ap (to_z w128) is

-- what is printed of a small number whose code is 0
pub zero_word : (word : List ℕ) (x : ℤ) → unsigned_abs x ≤ 10000000 → of_z w128 x ≡ 0 → word ≡ signed_decimal x → word ≡ signed_decimal (pos 0)
zero_word word x small is same = same ∙ ap signed_decimal (zero_is x small is)
