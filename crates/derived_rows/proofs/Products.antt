-- Products of whole numbers, of either sign.
use Rattle.std.proofs.Common.{◌≡◌, ℕ, zero, suc, ap, ◌∙◌, arith, ℤ, pos, negsuc, ◌+ℤ◌, ◌-ℤ◌, ◌*ℤ◌, ◌≤ℤ◌}
use Rattle.std.proofs.lemmas.Int.{ints}
use Rattle.std.proofs.Math.IntN.{suc_ℤ-*ℤ, zero-*ℤ, *ℤ_comm}

pos_add : (n : ℕ) (b c : ℤ) → pos n *ℤ (b +ℤ c) ≡ (pos n *ℤ b) +ℤ (pos n *ℤ c)
pos_add zero b c = omega (arith, ints, zero-*ℤ (b +ℤ c), zero-*ℤ b, zero-*ℤ c)
pos_add (suc n) b c = omega (arith, ints, suc_ℤ-*ℤ (pos n) (b +ℤ c), suc_ℤ-*ℤ (pos n) b, suc_ℤ-*ℤ (pos n) c, pos_add n b c)

negsuc_add : (n : ℕ) (b c : ℤ) → negsuc n *ℤ (b +ℤ c) ≡ (negsuc n *ℤ b) +ℤ (negsuc n *ℤ c)
negsuc_add zero b c =
    omega (arith, ints, suc_ℤ-*ℤ (negsuc 0) (b +ℤ c), suc_ℤ-*ℤ (negsuc 0) b, suc_ℤ-*ℤ (negsuc 0) c, zero-*ℤ (b +ℤ c), zero-*ℤ b, zero-*ℤ c)
negsuc_add (suc n) b c =
    omega (arith, ints, suc_ℤ-*ℤ (negsuc (suc n)) (b +ℤ c), suc_ℤ-*ℤ (negsuc (suc n)) b, suc_ℤ-*ℤ (negsuc (suc n)) c, negsuc_add n b c)

-- a product with a sum
pub times_add : (y b c : ℤ) → y *ℤ (b +ℤ c) ≡ (y *ℤ b) +ℤ (y *ℤ c)
times_add (pos n) b c = pos_add n b c
times_add (negsuc n) b c = negsuc_add n b c

-- a product with a difference
pub times_sub : (y b c : ℤ) → y *ℤ (b -ℤ c) ≡ (y *ℤ b) -ℤ (y *ℤ c)
times_sub y b c =
    let back : (b -ℤ c) +ℤ c ≡ b = omega (arith, ints) in
    omega (arith, ints, times_add y (b -ℤ c) c, ap (λ (x : ℤ). y *ℤ x) back)

-- a product with the next number
pub times_next : (y : ℤ) (s : ℕ) → y *ℤ pos (suc s) ≡ (y *ℤ pos s) +ℤ y
times_next y s = *ℤ_comm y (pos (suc s)) ∙ suc_ℤ-*ℤ (pos s) y ∙ ap (λ (x : ℤ). x +ℤ y) (*ℤ_comm (pos s) y)

-- a product with a number that is not less
pub times_le : (n : ℕ) (b c : ℤ) → b ≤ℤ c → (pos n *ℤ b) ≤ℤ (pos n *ℤ c)
times_le zero b c h = omega (arith, ints, zero-*ℤ b, zero-*ℤ c)
times_le (suc n) b c h = omega (arith, ints, suc_ℤ-*ℤ (pos n) b, suc_ℤ-*ℤ (pos n) c, times_le n b c h, h)
