-- Sums and counts over the numbers below a bound.
use Rattle.std.proofs.Common.{◌≡◌, ℕ, zero, suc, ◌+◌, ◌<◌, Bool, false, cond, List, [], ◌∷◌, refl, arith, add-one}
use Rattle.std.specs.List.{sum_by}
use Rattle.std.proofs.lemmas.List.Sums.{sum_by-cons}
use Rattle.stn_model.specs.Sums.{sum_below, count_below}

-- one number more
pub sum_below-more : (f : ℕ → ℕ) (n : ℕ) → sum_below f (n + 1) ≡ sum_below f n + f n
sum_below-more f n = rw add-one refl

pub count_below-more : (p : ℕ → Bool) (n : ℕ) → count_below p (n + 1) ≡ count_below p n + cond (p n) 1 0
count_below-more p n = rw add-one refl

-- a sum of nothing
pub sum_below-zero : (f : ℕ → ℕ) (n : ℕ) → ((k : ℕ) → k < n → f k ≡ 0) → sum_below f n ≡ 0
sum_below-zero f zero each = refl
sum_below-zero f (suc n) each = omega (arith, sum_below-zero f n (λ k lt. each k (omega arith)), each n (omega arith))

pub count_below-none : (p : ℕ → Bool) (n : ℕ) → ((k : ℕ) → k < n → p k ≡ false) → count_below p n ≡ 0
count_below-none p n none = sum_below-zero (λ k. cond (p k) 1 0) n (λ k lt. rw (none k lt) refl)

-- the sum of two sums
pub sum_below-plus : (f g : ℕ → ℕ) (n : ℕ) → sum_below (λ k. f k + g k) n ≡ sum_below f n + sum_below g n
sum_below-plus f g zero = refl
sum_below-plus f g (suc n) = omega (arith, sum_below-plus f g n)

-- two sums that agree in each summand
pub sum_below-agree : (f g : ℕ → ℕ) (n : ℕ) → ((k : ℕ) → f k ≡ g k) → sum_below f n ≡ sum_below g n
sum_below-agree f g zero same = refl
sum_below-agree f g (suc n) same = omega (arith, sum_below-agree f g n same, same n)

pub sum_by-agree : {X : Type 0} (f g : X → ℕ) (xs : List X) → ((x : X) → f x ≡ g x) → sum_by f xs ≡ sum_by g xs
sum_by-agree f g [] same = refl
sum_by-agree f g (x ∷ xs) same = omega (arith, sum_by-cons f x xs, sum_by-cons g x xs, sum_by-agree f g xs same, same x)

-- the sums change places
pub sums_change : {X : Type 0} (f : ℕ → X → ℕ) (xs : List X) (n : ℕ) → sum_below (λ k. sum_by (f k) xs) n ≡ sum_by (λ x. sum_below (λ k. f k x) n) xs
sums_change f [] n = sum_below-zero (λ k. 0) n (λ k lt. refl)
sums_change f (x ∷ xs) n =
    let one = sum_below-agree (λ k. sum_by (f k) (x ∷ xs)) (λ k. f k x + sum_by (f k) xs) n (λ k. sum_by-cons (f k) x xs) in
    let two = sum_below-plus (λ k. f k x) (λ k. sum_by (f k) xs) n in
    let rest = sums_change f xs n in
    omega (arith, sum_by-cons (λ x. sum_below (λ k. f k x) n) x xs, one, two, rest)
