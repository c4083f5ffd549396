-- Products of denominators and sums of numerators, as far as a loop has come.
use Rattle.std.proofs.Common.{◌≡◌, ℕ, ◌+◌, ◌*◌, ◌/◌, ◌^◌, ◌<◌, ◌≤◌, List, length, get_or, take, drop, sum_by, sym, ap, ◌∙◌, arith}
use Rattle.std.proofs.Math.Nat.{pow-le-pow_right, mul-le-mul_right, mul-le-mul_left, mul-div-le}
use Rattle.std.proofs.lemmas.List.{at_drop_more}
use Rattle.std.proofs.lemmas.List.Sums.{sum_by_more}
use Rattle.std.proofs.lemmas.Grind.{pow_more}
use Rattle.fraction.specs.declared.fraction_of.Fraction.{Fraction}
use Rattle.fraction.specs.Fractions.{IsProper, common_under}

-- what the denominators before place i multiply to
pub record IsProductSoFar (parts : List Fraction) (i whole : ℕ) : Type 0 where
  pub value : whole * common_under (drop i parts) ≡ common_under parts
  pub small : whole ≤ 10000 ^ i
  pub some : 0 < whole

-- what the numerators before place i sum to
pub record IsSumSoFar (whole : ℕ) (parts : List Fraction) (i sum : ℕ) : Type 0 where
  pub value : sum ≡ sum_by (λ part. part.over * (whole / part.under)) (take i parts)
  pub small : sum ≤ i * whole

-- eight denominators multiply to a number of 107 bits
pub power_bound : (i : ℕ) → i ≤ 8 → 10000 ^ i < 2 ^ 107
power_bound i few = let most : 10000 ^ i ≤ 10000 ^ 8 = pow-le-pow_right (omega arith) few in omega arith

-- one denominator more
pub IsProductSoFar-more : (parts : List Fraction) (i whole : ℕ) (part : Fraction) → i < length parts → length parts ≤ 8 → part ≡ get_or parts i part → IsProper part → IsProductSoFar parts i whole → (whole * part.under < 2 ^ 107) × IsProductSoFar parts (i + 1) (whole * part.under)
IsProductSoFar-more parts i whole part within few is proper before =
    let next : common_under (drop i parts) ≡ part.under * common_under (drop (i + 1) parts) = at_drop_more common_under parts i part within ∙ ap (λ (p : Fraction). p.under * common_under (drop (i + 1) parts)) (sym is) in
    let value : whole * common_under (drop i parts) ≡ whole * (part.under * common_under (drop (i + 1) parts)) = ap (λ (x : ℕ). whole * x) next in
    let left : whole * part.under ≤ 10000 ^ i * part.under = mul-le-mul_right part.under before.small in
    let right : 10000 ^ i * part.under ≤ 10000 ^ i * 10000 = mul-le-mul_left (10000 ^ i) proper.small in
    let some : 1 * part.under ≤ whole * part.under = mul-le-mul_right part.under before.some in
    let small : whole * part.under ≤ 10000 ^ (i + 1) = omega (arith, pow_more 10000 i) in
    (omega (arith, power_bound (i + 1) (omega arith)), record { value = omega (arith, before.value); small = small; some = omega (arith, proper.some, proper.most) })

-- a numerator over the common denominator is at most that
term_bound : (whole : ℕ) (part : Fraction) → IsProper part → part.over * (whole / part.under) ≤ whole
term_bound whole part proper =
    let most : part.over * (whole / part.under) ≤ part.under * (whole / part.under) = mul-le-mul_right (whole / part.under) proper.most in
    omega (arith, most, mul-div-le whole part.under)

-- one numerator more
pub IsSumSoFar-more : (whole : ℕ) (parts : List Fraction) (i sum : ℕ) (part : Fraction) → i < length parts → part ≡ get_or parts i part → IsProper part → IsSumSoFar whole parts i sum → IsSumSoFar whole parts (i + 1) (sum + part.over * (whole / part.under))
IsSumSoFar-more whole parts i sum part within is proper before =
    let next = sum_by_more (λ p. p.over * (whole / p.under)) parts i part within in
    let here : part.over * (whole / part.under) ≡ (get_or parts i part).over * (whole / (get_or parts i part).under) = ap (λ (p : Fraction). p.over * (whole / p.under)) is in
    record { value = omega (arith, before.value, next, here); small = omega (arith, before.small, term_bound whole part proper) }
