-- The lines of heads with setups.
use Rattle.std.proofs.Common.{◌≡◌, ℕ, zero, suc, ◌+◌, List, [], ◌∷◌, ◌++◌, ap, ◌∙◌, arith}
use Rattle.std.specs.List.{range_with_len}

-- one number more of a range
range-suc : (first n : ℕ) → range_with_len first (suc n) ≡ range_with_len first n ++ (first + n) ∷ []
range-suc first zero = (let same : first ≡ first + 0 = omega arith in ap (λ (x : ℕ). x ∷ []) same)
range-suc first (suc n) =
    let same : first + 1 + n ≡ first + suc n = omega arith in
    ap (λ (rest : List ℕ). first ∷ rest) (range-suc (first + 1) n ∙ ap (λ (x : ℕ). range_with_len (first + 1) n ++ x ∷ []) same)

pub range-more : (first n : ℕ) → range_with_len first (n + 1) ≡ range_with_len first n ++ (first + n) ∷ []
range-more first n = let one : n + 1 ≡ suc n = omega arith in ap (range_with_len first) one ∙ range-suc first n
