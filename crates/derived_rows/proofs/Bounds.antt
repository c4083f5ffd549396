-- How large the numbers of a derived row are.
use Rattle.std.proofs.Common.{ℕ, suc, ◌+◌, ◌-◌, ◌*◌, ◌/◌, ◌<◌, ◌≤◌, ◌^◌, arith, ℤ, pos, negsuc, ◌*ℤ◌, unsigned_abs}
use Rattle.std.proofs.lemmas.Int.{ints, clamps, unsigned_abs-mul}
use Rattle.std.proofs.Math.IntN.{pos-*ℤ-pos, pos-*ℤ-negsuc}
use Rattle.std.proofs.Math.Nat.{mul-le-mul}
use Rattle.derived_rows.specs.Rounding.{phi}

pub times_small : (n : ℕ) (x : ℤ) → n < 2 ^ 32 → unsigned_abs x ≤ 2 ^ 92 → unsigned_abs (pos n *ℤ x) ≤ 2 ^ 124
times_small n x lt le =
    let few : n ≤ 2 ^ 32 = omega arith in
    let big : n * unsigned_abs x ≤ 2 ^ 32 * 2 ^ 92 = mul-le-mul few le in
    omega (arith, unsigned_abs-mul (pos n) x, big)

-- phi is no further from 0 than its number and the divisor
pub phi_small : (d r : ℕ) → r < d → (a : ℤ) → unsigned_abs (phi d r a) ≤ unsigned_abs a + d
phi_small d r lt (pos a) =
    let less : (d - r) * (a / d) ≤ d * (a / d) = mul-le-mul (few d r) (same (a / d)) in
    omega (arith, ints, clamps, pos-*ℤ-pos (d - r) (a / d), less)
  where
    few : (d r : ℕ) → d - r ≤ d
    few d r = omega arith

    same : (q : ℕ) → q ≤ q
    same q = omega arith
phi_small d r lt (negsuc a) =
    let less : (d - r) * suc (a / d) ≤ d * suc (a / d) = mul-le-mul (few d r) (same (suc (a / d))) in
    omega (arith, ints, clamps, pos-*ℤ-negsuc (d - r) (a / d), less)
  where
    few : (d r : ℕ) → d - r ≤ d
    few d r = omega arith

    same : (q : ℕ) → q ≤ q
    same q = omega arith
