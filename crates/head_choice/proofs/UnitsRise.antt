-- Units that ascend, one place at a time.
use Rattle.std.proofs.Common.{◌≡◌, ℕ, ◌+◌, ◌-◌, ◌<◌, ◌≤◌, List, length, get_or, ap, ⊎_elim, arith}
use Rattle.std.proofs.lemmas.Bool.{cases_lt}

-- each unit below a place is below the next one
abbrev pub RiseTo : List ℕ → ℕ → Type 0
RiseTo units place = (k : ℕ) → k + 1 < place → get_or units k 0 < get_or units (k + 1) 0

-- one place more ascends
pub rises-on : (units : List ℕ) (i : ℕ) → RiseTo units i → i < length units → get_or units (i - 1) 0 < get_or units i 0 → RiseTo units (i + 1)
rises-on units i before lt here k h =
    ⊎_elim (λ (low : k + 1 < i). before k low)
    (λ (high : i ≤ k + 1).
    let at_k : k ≡ i - 1 = omega arith in
    let at_next : k + 1 ≡ i = omega arith in
    omega (arith, here, ap (λ (n : ℕ). get_or units n 0) at_k, ap (λ (n : ℕ). get_or units n 0) at_next))
    (cases_lt (k + 1) i)
