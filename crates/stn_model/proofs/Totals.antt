-- Signed sums over one more item, and how large they are.
use Rattle.std.proofs.Common.{◌≡◌, ℕ, zero, suc, ◌+◌, ◌<◌, ◌≤◌, List, [], ◌∷◌, length, get_or, take, arith, add-one, refl, ◌^◌, unsigned_abs}
use Rattle.std.specs.Prelude.{ℤ, ◌+ℤ◌}
use Rattle.std.proofs.lemmas.Int.{ints, to_z-of_z, fits_signed_from_abs}
use mir.Val.{to_z, of_z}
use mir.Syntax.{w128}
use Rattle.stn_model.specs.Sums.{total, total_below}

-- a sum over one more number, and over one more item
pub total_below_more : (f : ℕ → ℤ) (n : ℕ) → total_below f (n + 1) ≡ total_below f n +ℤ f n
total_below_more f n = rw add-one refl

total-take-suc : {X : Type 0} (f : X → ℤ) (xs : List X) (i : ℕ) (d : X) → i < length xs → total f (take (suc i) xs) ≡ total f (take i xs) +ℤ f (get_or xs i d)
total-take-suc f [] i d h = absurd (omega arith)
total-take-suc f (x ∷ xs) zero d h = omega (arith, ints)
total-take-suc f (x ∷ xs) (suc i) d h = let k : i < length xs = omega arith in let ih = total-take-suc f xs i d k in omega (arith, ints, ih)

pub total_more : {X : Type 0} (f : X → ℤ) (xs : List X) (i : ℕ) (d : X) → i < length xs → total f (take (i + 1) xs) ≡ total f (take i xs) +ℤ f (get_or xs i d)
total_more f xs i d h = rw add-one (total-take-suc f xs i d h)

-- a sum of two numbers that are small enough is what the machine's sum gives, and no larger than both
pub sum_fits : (s x : ℤ) (m k : ℕ) → unsigned_abs s ≤ m → unsigned_abs x ≤ k → m + k < 2 ^ 127 → (to_z w128 (of_z w128 (s +ℤ to_z w128 (of_z w128 x))) ≡ s +ℤ x) × (unsigned_abs (s +ℤ x) ≤ m + k)
sum_fits s x m k hs hx hm =
    let bound : unsigned_abs (s +ℤ x) ≤ m + k = omega (arith, ints) in
    let fx : to_z w128 (of_z w128 x) ≡ x = to_z-of_z w128 x (fits_signed_from_abs w128 x (omega arith)) in
    let fs : to_z w128 (of_z w128 (s +ℤ x)) ≡ s +ℤ x = to_z-of_z w128 (s +ℤ x) (fits_signed_from_abs w128 (s +ℤ x) (omega arith)) in
    (rw fx fs, bound)

-- the step of a running sum over the numbers below n
pub total_below_step : (f : ℕ → ℤ) (n : ℕ) (r s x : ℤ) → r ≡ s +ℤ x → s ≡ total_below f n → x ≡ f n → r ≡ total_below f (n + 1)
total_below_step f n r s x e es ex = rw (total_below_more f n) (rw (e, es, ex) refl)

-- the step of a running sum over a list
pub total_step : {X : Type 0} (f : X → ℤ) (xs : List X) (i : ℕ) (d : X) (r s x : ℤ) → i < length xs → r ≡ s +ℤ x → s ≡ total f (take i xs) → x ≡ f (get_or xs i d) → r ≡ total f (take (i + 1) xs)
total_step f xs i d r s x h e es ex = rw (total_more f xs i d h) (rw (e, es, ex) refl)

-- sums of the same summands are the same
pub total_below-agree : (f g : ℕ → ℤ) (n : ℕ) → ((k : ℕ) → k < n → f k ≡ g k) → total_below f n ≡ total_below g n
total_below-agree f g zero same = refl
total_below-agree f g (suc n) same =
    let before : total_below f n ≡ total_below g n = total_below-agree f g n (λ k h. same k (omega arith)) in
    let last : f n ≡ g n = same n (omega arith) in
    rw (before, last) refl
