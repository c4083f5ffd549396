-- What holds of each number below one, or else another fact.
use Rattle.std.proofs.Common.{◌≡◌, ℕ, zero, suc, ◌+◌, ◌<◌, ◌≤◌, subst, ⊎_elim, ◌⊎◌, inl, inr, arith}
use Rattle.std.proofs.lemmas.Bool.{cases_lt}

-- one number more
pub one_more : (P : ℕ → Type 0) (R : Type 0) (n : ℕ) → ((k : ℕ) → k < n → P k ⊎ R) → P n ⊎ R → (k : ℕ) → k < n + 1 → P k ⊎ R
one_more P R n each here k lt =
    ⊎_elim (λ (low : k < n). each k low)
    (λ (high : n ≤ k). let e : n ≡ k = omega arith in subst (λ (j : ℕ). P j ⊎ R) e here)
    (cases_lt k n)

-- either it holds of each, or the other fact holds
pub each_or : (P : ℕ → Type 0) (R : Type 0) (n : ℕ) → ((k : ℕ) → k < n → P k ⊎ R) → ((k : ℕ) → k < n → P k) ⊎ R
each_or P R zero each = inl (λ k lt. absurd (omega arith))
each_or P R (suc n) each =
    elim (each_or P R n (λ k lt. each k (omega arith))) [
      | inl all ↦
          elim (each n (omega arith)) [
            | inl here ↦ inl (λ k lt. ⊎_elim (λ (low : k < n). all k low) (λ (high : n ≤ k). let e : n ≡ k = omega arith in subst P e here) (cases_lt k n))
            | inr other ↦ inr other
          ]
      | inr other ↦ inr other
    ]
