-- Lowest terms, by Euclid's algorithm.
use Rattle.std.proofs.Common.{◌≡◌, ℕ, zero, suc, ◌+◌, ◌-◌, ◌*◌, ◌/◌, ◌%◌, ◌<◌, ◌≤◌, sym, ap, arith}
use Rattle.std.specs.Int.{◌∣◌, IsGcd}
use Rattle.std.proofs.Math.Nat.{dvd-mul_right_of_dvd, dvd-mul_left, mul-div_cancel', dvd_of_mul-dvd-mul_left, mul-le-mul_right, mul-le-mul_left}
use Rattle.std.proofs.lemmas.Nat.Gcd.{dvd_refl, dvd-zero, le_of_dvd, IsGcd-from_zero, IsGcd-from_mod}
use Rattle.fraction.specs.Fractions.{Reduces}

-- equal products of one positive factor have equal other factors
pub same_factor : (r x y : ℕ) → 0 < r → x * r ≡ y * r → x ≡ y
same_factor r x y some same =
    let low : suc x ≤ y → suc x * r ≤ y * r = mul-le-mul_right r in
    let high : suc y ≤ x → suc y * r ≤ x * r = mul-le-mul_right r in
    grind (arith, low, high)

-- Euclid's algorithm ends at 0
pub Reduces-zero : (a b : ℕ) → b ≡ 0 → Reduces a b a
Reduces-zero a b none = record {
  gcd = IsGcd-from_zero a b none;
  multiple = λ over under same.
      let empty : a * under ≡ 0 = omega (arith, rw none at same) in
      rw none (rw empty (dvd-zero 0));
}

-- what is left of a ratio after its whole part
remainder_of : (a b q r over under : ℕ) → 0 < b → a ≡ b * q + r → over * b ≡ under * a → (m : ℕ) × (m * b ≡ under * r)
remainder_of a b q r over under some split same =
    let spread : under * a ≡ under * (b * q + r) = ap (λ (x : ℕ). under * x) split in
    let high : suc over ≤ under * q → suc over * b ≤ under * q * b = mul-le-mul_right b in
    let bound : under * q ≤ over = grind (arith, high) in
    let m : ℕ = over - under * q in
    let parts : over ≡ m + under * q = omega arith in
    let products : over * b ≡ (m + under * q) * b = ap (λ (x : ℕ). x * b) parts in
    (m, omega arith)

-- a step of Euclid's algorithm keeps the multiples
multiple_step : (b r divisor under m : ℕ) → IsGcd b r divisor → m * b ≡ under * r → ((over u : ℕ) → over * r ≡ u * b → r ∣ divisor * u) → b ∣ divisor * under
multiple_step b zero divisor under m gcd same multiple = dvd-mul_right_of_dvd b (gcd.2 b (dvd_refl b) (dvd-zero b)) under
multiple_step b (suc r) divisor under m gcd same multiple =
    let t : ℕ = divisor * m / suc r in
    let whole : suc r * t ≡ divisor * m = mul-div_cancel' (suc r) (multiple under m (sym same)) in
    let left : divisor * (m * b) ≡ divisor * (under * suc r) = ap (λ (x : ℕ). divisor * x) same in
    let right : suc r * t * b ≡ divisor * m * b = ap (λ (x : ℕ). x * b) whole in
    let times : divisor * under ≡ t * b = same_factor (suc r) (divisor * under) (t * b) (omega arith) (omega arith) in
    rw times (dvd-mul_left b t)

-- and Euclid's algorithm goes on with the remainder
pub Reduces-rest : (a b divisor : ℕ) → 0 < b → Reduces b (a % b) divisor → Reduces a b divisor
Reduces-rest a b divisor some rest = record {
  gcd = IsGcd-from_mod a b divisor rest.gcd;
  multiple = λ over under same.
      let left = remainder_of a b (a / b) (a % b) over under some (omega arith) same in
      multiple_step b (a % b) divisor under left.0 rest.gcd left.1 rest.multiple;
}

-- the divisor of a positive number is positive
pub Reduces-positive : (a b divisor : ℕ) → 1 ≤ a → Reduces a b divisor → 0 < divisor
Reduces-positive a b zero some reduces = let none : 0 * (a / 0) ≡ a = mul-div_cancel' 0 reduces.gcd.0 in omega arith
Reduces-positive a b (suc divisor) some reduces = omega arith

-- the terms that the divisor gives are the lowest
pub record AreLowest (amount quantum over under : ℕ) : Type 0 where
  pub some : 1 ≤ over
  pub most : over ≤ under
  pub same : over * quantum ≡ under * amount
  pub least : (o u : ℕ) → 0 < u → o * quantum ≡ u * amount → under ≤ u

lowest : (amount quantum divisor over under : ℕ) → 1 ≤ amount → amount ≤ quantum → 0 < divisor → Reduces amount quantum divisor → divisor * over ≡ amount → divisor * under ≡ quantum → AreLowest amount quantum over under
lowest amount quantum divisor over under some most positive reduces is_over is_under = record {
  some = let none : over ≤ 0 → divisor * over ≤ divisor * 0 = mul-le-mul_left divisor in grind (arith, none);
  most = let above : suc under ≤ over → divisor * suc under ≤ divisor * over = mul-le-mul_left divisor in grind (arith, above);
  same =
      let left : over * (divisor * under) ≡ over * quantum = ap (λ (x : ℕ). over * x) is_under in
      let right : under * (divisor * over) ≡ under * amount = ap (λ (x : ℕ). under * x) is_over in
      omega arith;
  least = λ o u there same. le_of_dvd there (dvd_of_mul-dvd-mul_left under positive (rw is_under (reduces.multiple o u same)));
}

pub AreLowest-reduced : (amount quantum divisor : ℕ) → 1 ≤ amount → amount ≤ quantum → Reduces amount quantum divisor → AreLowest amount quantum (amount / divisor) (quantum / divisor)
AreLowest-reduced amount quantum divisor some most reduces =
    lowest amount quantum divisor (amount / divisor) (quantum / divisor) some most (Reduces-positive amount quantum divisor some reduces) reduces
    (mul-div_cancel' divisor reduces.gcd.0) (mul-div_cancel' divisor reduces.gcd.1)
