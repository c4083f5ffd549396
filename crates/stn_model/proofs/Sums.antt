-- Sums, products and greatest numbers over one more item.
use Rattle.std.proofs.Common.{◌≡◌, ℕ, zero, suc, ◌+◌, ◌<◌, max, List, [], ◌∷◌, length, get_or, take, arith, add-one}
use Rattle.stn_model.specs.Sums.{greatest_by}

-- the greatest over a list with one more item at its end
greatest_by-take-suc : {X : Type 0} (f : X → ℕ) (xs : List X) (i : ℕ) (d : X) → i < length xs → greatest_by f (take (suc i) xs) ≡ max (greatest_by f (take i xs)) (f (get_or xs i d))
greatest_by-take-suc f [] i d h = absurd (omega arith)
greatest_by-take-suc f (x ∷ xs) zero d h = omega arith
greatest_by-take-suc f (x ∷ xs) (suc i) d h = let k : i < length xs = omega arith in let ih = greatest_by-take-suc f xs i d k in omega (arith, ih)

-- the greatest over a list with one more item at its end
pub greatest_by-take : {X : Type 0} (f : X → ℕ) (xs : List X) (i : ℕ) (d : X) → i < length xs → greatest_by f (take (i + 1) xs) ≡ max (greatest_by f (take i xs)) (f (get_or xs i d))
greatest_by-take f xs i d h = rw add-one (greatest_by-take-suc f xs i d h)
