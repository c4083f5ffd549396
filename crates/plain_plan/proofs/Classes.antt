-- Sums over classes of items: each item has one class.
use Rattle.std.proofs.Common.{◌≡◌, ℕ, zero, suc, ◌+◌, ◌*◌, ◌<◌, ◌≤◌, ◌==◌, if◌then◌else◌, List, [], ◌∷◌, sum_by, refl, arith, inl, inr}
use Rattle.std.proofs.lemmas.List.Sums.{sum_by-cons}
use Rattle.std.proofs.lemmas.Bool.{eq-eqb, ne_eqb, cases_eq, cond-true, cond-false}
use Rattle.stn_model.specs.Sums.{sum_below}

-- a sum of two summands is the sum of both sums
pub below-add : (f g : ℕ → ℕ) (n : ℕ) → sum_below (λ k. f k + g k) n ≡ sum_below f n + sum_below g n
below-add f g zero = refl
below-add f g (suc n) = omega (arith, below-add f g n)

-- where each number is at most m, the sum is at most n times m
pub below-most : (f : ℕ → ℕ) (m n : ℕ) → ((k : ℕ) → k < n → f k ≤ m) → sum_below f n ≤ n * m
below-most f m zero h = omega arith
below-most f m (suc n) h = omega (arith, h n (omega arith), below-most f m n (λ k l. h k (omega arith)))

-- a number from n on is not below n
not_below : (v m n : ℕ) → n ≤ v → sum_below (λ j. if v == j then m else 0) n ≡ 0
not_below v m zero l = refl
not_below v m (suc n) l =
    let rest = not_below v m n (omega arith) in
    let here = cond-false {A = ℕ} (v == n) m 0 (ne_eqb v n (λ e. omega arith)) in
    omega (arith, rest, here)

-- a number is at most once below n
once_below : (v m n : ℕ) → sum_below (λ j. if v == j then m else 0) n ≤ m
once_below v m zero = omega arith
once_below v m (suc n) =
    elim (cases_eq v n) [
      | inl e ↦
          let rest = not_below v m n (omega arith) in
          let here = cond-true {A = ℕ} (v == n) m 0 (eq-eqb v n e) in
          omega (arith, rest, here)
      | inr e ↦
          let rest = once_below v m n in
          let here = cond-false {A = ℕ} (v == n) m 0 (ne_eqb v n e) in
          omega (arith, rest, here)
    ]

below-same : (f g : ℕ → ℕ) → ((k : ℕ) → f k ≡ g k) → (n : ℕ) → sum_below f n ≡ sum_below g n
below-same f g h zero = refl
below-same f g h (suc n) = omega (arith, h n, below-same f g h n)

-- each item has one class, so the sums of the classes are at most the sum
pub classes_below : {X : Type 0} (class m : X → ℕ) (xs : List X) (n : ℕ) → sum_below (λ j. sum_by (λ x. if class x == j then m x else 0) xs) n ≤ sum_by m xs
classes_below class m [] n = omega (arith, below-most (λ j. 0) 0 n (λ k l. omega arith))
classes_below {X} class m (x ∷ xs) n =
    let own : ℕ → ℕ = λ j. if class x == j then m x else 0 in
    let others : ℕ → ℕ = λ j. sum_by (λ y. if class y == j then m y else 0) xs in
    let split = below-same (λ j. sum_by (λ y. if class y == j then m y else 0) (x ∷ xs)) (λ j. own j + others j)
    (λ j. sum_by-cons (λ (y : X). if class y == j then m y else 0) x xs) n in
    let added = below-add own others n in
    let first = once_below (class x) (m x) n in
    let rest = classes_below class m xs n in
    let whole = sum_by-cons m x xs in
    omega (arith, split, added, first, rest, whole)
