-- Products of signed numbers.
use Rattle.std.proofs.Common.{◌≡◌, ℕ, zero, suc, sym, ap, ◌∙◌, arith, ℤ, pos, neg_ℤ, ◌+ℤ◌, ◌*ℤ◌, ◌≤ℤ◌}
use Rattle.std.proofs.lemmas.Int.{ints}
use Rattle.std.proofs.Math.IntN.{suc_ℤ-*ℤ, zero-*ℤ, *ℤ_comm}

-- the next multiple
next : (n : ℕ) (b : ℤ) → pos (suc n) *ℤ b ≡ (pos n *ℤ b) +ℤ b
next n b = suc_ℤ-*ℤ (pos n) b

pub mul_add : (n : ℕ) (b c : ℤ) → pos n *ℤ (b +ℤ c) ≡ (pos n *ℤ b) +ℤ (pos n *ℤ c)
mul_add zero b c = omega (arith, ints, zero-*ℤ (b +ℤ c), zero-*ℤ b, zero-*ℤ c)
mul_add (suc n) b c = omega (arith, ints, next n (b +ℤ c), next n b, next n c, mul_add n b c)

pub mul_neg : (n : ℕ) (b : ℤ) → pos n *ℤ neg_ℤ b ≡ neg_ℤ (pos n *ℤ b)
mul_neg zero b = omega (arith, ints, zero-*ℤ (neg_ℤ b), zero-*ℤ b)
mul_neg (suc n) b = omega (arith, ints, next n (neg_ℤ b), next n b, mul_neg n b)

pub mul_le : (n : ℕ) (b c : ℤ) → b ≤ℤ c → (pos n *ℤ b) ≤ℤ (pos n *ℤ c)
mul_le zero b c h = omega (arith, ints, zero-*ℤ b, zero-*ℤ c)
mul_le (suc n) b c h = omega (arith, ints, next n b, next n c, mul_le n b c h, h)

pub add_mul : (b c : ℤ) (n : ℕ) → (b +ℤ c) *ℤ pos n ≡ (b *ℤ pos n) +ℤ (c *ℤ pos n)
add_mul b c n = omega (arith, ints, *ℤ_comm (b +ℤ c) (pos n), *ℤ_comm b (pos n), *ℤ_comm c (pos n), mul_add n b c)

pub mul_assoc : (m n : ℕ) (b : ℤ) → pos m *ℤ (b *ℤ pos n) ≡ (pos m *ℤ b) *ℤ pos n
mul_assoc zero n b = omega (arith, ints, zero-*ℤ (b *ℤ pos n), zero-*ℤ b, zero-*ℤ (pos n), ap (λ x. x *ℤ pos n) (zero-*ℤ b))
mul_assoc (suc m) n b =
    next m (b *ℤ pos n) ∙ ap (λ x. x +ℤ (b *ℤ pos n)) (mul_assoc m n b) ∙ sym (ap (λ x. x *ℤ pos n) (next m b) ∙ add_mul (pos m *ℤ b) b n)

pub neg_mul : (b : ℤ) (n : ℕ) → neg_ℤ b *ℤ pos n ≡ neg_ℤ (b *ℤ pos n)
neg_mul b n = omega (arith, ints, *ℤ_comm (neg_ℤ b) (pos n), *ℤ_comm b (pos n), mul_neg n b)
