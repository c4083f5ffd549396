-- Signed numbers of at most 30 digits: what is printed of them.
use Rattle.std.proofs.Common.{◌≡◌, ◌≢◌, ℕ, ℤ, pos, negsuc, suc, ◌<◌, ◌^◌, false, eqb, List, ◌∷◌, drop, get_or, decimal, sym, ap, arith}
use Rattle.std.specs.Fmt.{signed_decimal}
use Rattle.std.proofs.lemmas.Bool.Decides.{nat_tests}
use Rattle.std.proofs.lemmas.Fmt.{decimal_is_IsNumeral_wide}
use Rattle.text_words.proofs.Digits.{decimal_injective_wide}
use Rattle.text_words.proofs.Printed.{decimal-lacks}
use Rattle.log_lines.specs.Line.{IsShort}

-- no minus is printed of a number without sign
pub plain_first : (n : ℕ) → n < 10 ^ 64 → eqb (get_or (decimal n) 0 0) 45 ≡ false
plain_first n small = decimal-lacks n 45 small (λ r. omega arith) 0 0 (decimal_is_IsNumeral_wide n small).0.0

no_minus : (n : ℕ) (digits : List ℕ) → n < 10 ^ 64 → 45 ∷ digits ≢ decimal n
no_minus n digits small is =
    let plain = plain_first n small in
    let first : get_or (decimal n) 0 0 ≡ 45 = ap (λ w. get_or w 0 0) (sym is) in
    grind (arith, nat_tests)

-- what follows a minus is printed of a number above zero, where it is printed of one with the minus
pub no_negative : (digits : List ℕ) → ((n : ℕ) → n < 10 ^ 30 → digits ≡ decimal n → n ≡ 0) → (number : ℤ) → IsShort number → 45 ∷ digits ≢ signed_decimal number
no_negative digits none (pos n) short is = no_minus n digits (omega arith) is
no_negative digits none (negsuc m) short is = omega (arith, none (suc m) short (ap (drop 1) is))

-- signed numbers with the same digits are the same
pub signed_decimal_injective_wide : (y z : ℤ) → IsShort y → IsShort z → signed_decimal y ≡ signed_decimal z → y ≡ z
signed_decimal_injective_wide (pos m) (pos n) p q e = ap pos (decimal_injective_wide m n (omega arith) (omega arith) e)
signed_decimal_injective_wide (pos m) (negsuc n) p q e = absurd (no_minus m (decimal (suc n)) (omega arith) (sym e))
signed_decimal_injective_wide (negsuc m) (pos n) p q e = absurd (no_minus n (decimal (suc m)) (omega arith) e)
signed_decimal_injective_wide (negsuc m) (negsuc n) p q e = ap negsuc (omega (arith, decimal_injective_wide (suc m) (suc n) (omega arith) (omega arith) (ap (drop 1) e)))
