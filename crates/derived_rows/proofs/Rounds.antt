-- What phi keeps.
use Rattle.std.proofs.Common.{◌≡◌, ℕ, ◌-◌, ◌/◌, ◌<◌, ◌≤◌, ap, ap₂, ◌∙◌, arith, ℤ, pos, negsuc, ◌+ℤ◌, ◌-ℤ◌, ◌*ℤ◌, ◌≤ℤ◌, ◌<ℤ◌, unsigned_abs}
use Rattle.std.specs.Int.{int_div_euclid, int_max, int_rem_euclid}
use Rattle.std.proofs.lemmas.Int.{ints, clamps, by_lt_z}
use Rattle.std.proofs.Math.IntN.{pos-*ℤ-pos, pos-*ℤ-negsuc, *ℤ-zero, *ℤ-one}
use Rattle.derived_rows.specs.Rounding.{phi}
use Rattle.derived_rows.proofs.Products.{times_add, times_le}

-- a number is so many whole times the divisor and a remainder
pub record IsDivided (d : ℕ) (a q m : ℤ) : Type 0 where
  pub whole : a ≡ (pos d *ℤ q) +ℤ m
  pub least : pos 0 ≤ℤ m
  pub most : m <ℤ pos d

divided : (d : ℕ) (a : ℤ) → 1 ≤ d → IsDivided d a (int_div_euclid a (pos d)) (int_rem_euclid a (pos d))
divided d (pos a) some = record {
  whole = omega (arith, ints, pos-*ℤ-pos d (a / d));
  least = omega (arith, ints);
  most = omega (arith, ints);
}
divided d (negsuc a) some = record {
  whole = omega (arith, ints, pos-*ℤ-negsuc d (a / d));
  least = omega (arith, ints);
  most = omega (arith, ints);
}

-- no two quotients of one number differ in this way
no_less : (d : ℕ) (a p q m n : ℤ) → IsDivided d a p m → IsDivided d a q n → p <ℤ q → ⊥
no_less d a p q m n h k lt = omega (arith, ints, times_le d (p +ℤ pos 1) q (omega (arith, ints)), times_add (pos d) p (pos 1), *ℤ-one (pos d), h.whole, h.most, k.whole, k.least)

same_quotient : (d : ℕ) (a p q m n : ℤ) → IsDivided d a p m → IsDivided d a q n → p ≡ q
same_quotient d a p q m n h k =
    by_lt_z p q (λ lt. absurd (no_less d a p q m n h k lt)) (λ ge. by_lt_z q p (λ lt. absurd (no_less d a q p n m k h lt)) (λ le. omega (arith, ints)))

-- phi by whatever quotient and remainder a number has
pub phi_is : (d r : ℕ) (a q m : ℤ) → 1 ≤ d → IsDivided d a q m → phi d r a ≡ (pos (d - r) *ℤ q) +ℤ int_max (pos 0) (m -ℤ pos r)
phi_is d r a q m some h =
    let k = divided d a some in
    let p = int_div_euclid a (pos d) in
    let n = int_rem_euclid a (pos d) in
    let one = same_quotient d a p q n m k h in
    let two : n ≡ m = omega (arith, ints, k.whole, h.whole, ap (λ (x : ℤ). pos d *ℤ x) one) in
    ap₂ (λ (x y : ℤ). (pos (d - r) *ℤ x) +ℤ int_max (pos 0) (y -ℤ pos r)) one two

-- phi of two numbers is at most phi of their sum
pub phi_adds : (d r : ℕ) → r < d → (a b : ℤ) → (phi d r a +ℤ phi d r b) ≤ℤ phi d r (a +ℤ b)
phi_adds d r lt a b =
    let e = d - r in
    let h = divided d a (omega arith) in
    let k = divided d b (omega arith) in
    let p = int_div_euclid a (pos d) in
    let q = int_div_euclid b (pos d) in
    let m = int_rem_euclid a (pos d) in
    let n = int_rem_euclid b (pos d) in
    by_lt_z (m +ℤ n) (pos d)
    (λ less.
    let is : IsDivided d (a +ℤ b) (p +ℤ q) (m +ℤ n) =
    record { whole = omega (arith, ints, h.whole, k.whole, times_add (pos d) p q); least = omega (arith, ints, h.least, k.least); most = less } in
    omega (arith, ints, clamps, phi_is d r (a +ℤ b) (p +ℤ q) (m +ℤ n) (omega arith) is, times_add (pos e) p q, h.least, k.least))
    (λ more.
    let is : IsDivided d (a +ℤ b) ((p +ℤ q) +ℤ pos 1) ((m +ℤ n) -ℤ pos d) =
    record { whole = omega (arith, ints, h.whole, k.whole, times_add (pos d) p q, times_add (pos d) (p +ℤ q) (pos 1), *ℤ-one (pos d)); least = omega (arith, ints); most = omega (arith, ints, h.most, k.most) } in
    omega (arith, ints, clamps, phi_is d r (a +ℤ b) ((p +ℤ q) +ℤ pos 1) ((m +ℤ n) -ℤ pos d) (omega arith) is, times_add (pos e) p q, times_add (pos e) (p +ℤ q) (pos 1), *ℤ-one (pos e), h.most, k.most))

-- phi of a number that is not below 0 is not below 0
pub phi_positive : (d r n : ℕ) → pos 0 ≤ℤ phi d r (pos n)
phi_positive d r n = omega (arith, ints, clamps, pos-*ℤ-pos (d - r) (n / d))

-- phi of 0 is 0
pub phi_nothing : (d r : ℕ) → r < d → phi d r (pos 0) ≡ pos 0
phi_nothing d r lt =
    phi_is d r (pos 0) (pos 0) (pos 0) (omega arith) (record { whole = omega (arith, ints, *ℤ-zero (pos d)); least = omega (arith, ints); most = omega (arith, ints) })
    ∙ omega (arith, ints, clamps, *ℤ-zero (pos (d - r)))

-- phi never falls
pub phi_rises : (d r : ℕ) → r < d → (a b : ℤ) → a ≤ℤ b → phi d r a ≤ℤ phi d r b
phi_rises d r lt a b le =
    let more = b -ℤ a in
    let up : more ≡ pos (unsigned_abs more) = omega (arith, ints) in
    let sum : a +ℤ more ≡ b = omega (arith, ints) in
    omega (arith, ints, phi_adds d r lt a more, ap (phi d r) sum, ap (phi d r) up, phi_positive d r (unsigned_abs more))

-- no quotient is less than a number of which the multiple is not above
pub quotient_at_least : (n : ℕ) (t z : ℤ) → 1 ≤ n → (pos n *ℤ z) ≤ℤ t → z ≤ℤ int_div_euclid t (pos n)
quotient_at_least n t z some le =
    let q = int_div_euclid t (pos n) in
    let k = divided n t some in
    by_lt_z q z
    (λ less. absurd (omega (arith, ints, times_le n (q +ℤ pos 1) z (omega (arith, ints)), times_add (pos n) q (pos 1), *ℤ-one (pos n), k.whole, k.most, le)))
    (λ more. more)
