-- Whole quotients: between which multiples a number lies, and that quotients rise with their numbers.
use Rattle.std.proofs.Common.{◌≡◌, ℕ, suc, ◌+◌, ◌*◌, ◌/◌, ◌<◌, ◌≤◌, ap, subst, arith, ℤ, pos, negsuc, neg_ℤ, ◌+ℤ◌, ◌*ℤ◌, ◌≤ℤ◌, ◌<ℤ◌}
use Rattle.std.specs.Int.{int_div_euclid}
use Rattle.std.proofs.lemmas.Int.{ints, by_lt_z}
use Rattle.std.proofs.Math.IntN.{pos-*ℤ-pos}
use Rattle.std.proofs.Math.Nat.{mul-div-le, div-lt_iff_lt-mul, mul_comm}
use Rattle.dual_bound.proofs.Signed.{mul_le, mul_neg}

below_next : (a n : ℕ) → 1 ≤ n → a < n * (a / n + 1)
below_next a n some = subst (λ (m : ℕ). a < m) (mul_comm (a / n + 1) n) ((div-lt_iff_lt-mul {k = n} {x = a} {y = a / n + 1} (omega arith)).0 (omega arith))

-- a number is at least its quotient times the divisor
pub quotient_below : (n : ℕ) (t : ℤ) → 1 ≤ n → (pos n *ℤ int_div_euclid t (pos n)) ≤ℤ t
quotient_below n (pos a) some = omega (arith, ints, pos-*ℤ-pos n (a / n), mul-div-le a n)
quotient_below n (negsuc a) some = omega (arith, ints, mul_neg n (pos (suc (a / n))), pos-*ℤ-pos n (suc (a / n)), below_next a n some)

-- and below the next multiple
pub quotient_above : (n : ℕ) (t : ℤ) → 1 ≤ n → t <ℤ (pos n *ℤ (int_div_euclid t (pos n) +ℤ pos 1))
quotient_above n (pos a) some = omega (arith, ints, pos-*ℤ-pos n (a / n + 1), below_next a n some)
quotient_above n (negsuc a) some =
    let less : negsuc (a / n) +ℤ pos 1 ≡ neg_ℤ (pos (a / n)) = omega (arith, ints) in
    omega (arith, ints, ap (λ (x : ℤ). pos n *ℤ x) less, mul_neg n (pos (a / n)), pos-*ℤ-pos n (a / n), mul-div-le a n)

-- no quotient is less than a number of which the multiple is not above
pub quotient_at_least : (n : ℕ) (t z : ℤ) → 1 ≤ n → (pos n *ℤ z) ≤ℤ t → z ≤ℤ int_div_euclid t (pos n)
quotient_at_least n t z some le =
    let q = int_div_euclid t (pos n) in
    by_lt_z q z
    (λ less. let over : (pos n *ℤ (q +ℤ pos 1)) ≤ℤ (pos n *ℤ z) = mul_le n (q +ℤ pos 1) z (omega (arith, ints, less)) in absurd (omega (arith, ints, over, le, quotient_above n t some)))
    (λ more. more)

-- a number whose multiples enclose another is its quotient
pub quotient_is : (n : ℕ) (t z : ℤ) → 1 ≤ n → (pos n *ℤ z) ≤ℤ t → t <ℤ (pos n *ℤ (z +ℤ pos 1)) → z ≡ int_div_euclid t (pos n)
quotient_is n t z some le lt =
    let q = int_div_euclid t (pos n) in
    by_lt_z z q
    (λ less. let over : (pos n *ℤ (z +ℤ pos 1)) ≤ℤ (pos n *ℤ q) = mul_le n (z +ℤ pos 1) q (omega (arith, ints, less)) in absurd (omega (arith, ints, over, lt, quotient_below n t some)))
    (λ more. omega (arith, ints, more, quotient_at_least n t z some le))

-- quotients rise with their numbers
pub quotient_rises : (n : ℕ) (s t : ℤ) → 1 ≤ n → s ≤ℤ t → int_div_euclid s (pos n) ≤ℤ int_div_euclid t (pos n)
quotient_rises n s t some le = quotient_at_least n t (int_div_euclid s (pos n)) some (omega (arith, ints, le, quotient_below n s some))
