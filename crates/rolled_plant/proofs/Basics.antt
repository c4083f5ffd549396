-- Lists by number, sums over lists and numbers, and tests of shifted numbers.
use Rattle.std.proofs.Common.{◌≡◌, ℕ, zero, suc, ◌+◌, ◌<◌, ◌≤◌, leb, ltb, List, [], ◌∷◌, ◌++◌, length, get_or, map, sum_by, refl, sym, ap, ap₂, ◌∙◌, inl, inr, arith}
use Rattle.std.specs.Prelude.{ℤ, ◌+ℤ◌, All}
use Rattle.std.proofs.lemmas.Bool.{cases_lt, le-leb, lt-leb}
use Rattle.std.proofs.lemmas.Int.{ints}
use Rattle.std.proofs.lemmas.List.Sums.{sum_by-cons, sum_by-append}
use Rattle.std.proofs.lemmas.List.Elements.{All-head, All-tail}
use Rattle.stn_model.specs.Sums.{total, total_below, sum_below}
use Rattle.rolled_plant.specs.Lists.{map_from, listed_below}

-- ---- lists by number

pub length-map_from : {X Y : Type 0} (f : ℕ → X → Y) (n : ℕ) (xs : List X) → length (map_from f n xs) ≡ length xs
length-map_from f n [] = refl
length-map_from f n (x ∷ xs) = ap suc (length-map_from f (suc n) xs)

pub get_or-map_from : {X Y : Type 0} (f : ℕ → X → Y) (n : ℕ) (xs : List X) (k : ℕ) (d : X) (e : Y) → k < length xs → get_or (map_from f n xs) k e ≡ f (n + k) (get_or xs k d)
get_or-map_from f n [] k d e l = absurd (omega arith)
get_or-map_from f n (x ∷ xs) zero d e l = let same : n ≡ n + 0 = omega arith in ap (λ m. f m x) same
get_or-map_from f n (x ∷ xs) (suc k) d e l =
    let same : suc n + k ≡ n + suc k = omega arith in
    let within : k < length xs = omega arith in
    get_or-map_from f (suc n) xs k d e within ∙ ap (λ m. f m (get_or xs k d)) same

-- an item of the list that is numbered from 0
pub get_or-map_zero : {X Y : Type 0} (f : ℕ → X → Y) (xs : List X) (k : ℕ) (d : X) (e : Y) → k < length xs → get_or (map_from f 0 xs) k e ≡ f k (get_or xs k d)
get_or-map_zero f xs k d e l = let same : 0 + k ≡ k = omega arith in get_or-map_from f 0 xs k d e l ∙ ap (λ m. f m (get_or xs k d)) same

-- ---- tests of shifted numbers

-- two comparisons agree where each follows from the other
pub leb_agree : (a b c d : ℕ) → (a ≤ b → c ≤ d) → (c ≤ d → a ≤ b) → leb a b ≡ leb c d
leb_agree a b c d to from =
    elim (cases_lt b a) [
      | inl l ↦ lt-leb a b l ∙ sym (elim (cases_lt d c) [
        | inl m ↦ lt-leb c d m
        | inr m ↦ absurd (let n = from m in omega arith)
      ])
      | inr l ↦ le-leb a b l ∙ sym (le-leb c d (to l))
    ]

pub ltb_shift : (p a b : ℕ) → ltb (p + a) (p + b) ≡ ltb a b
ltb_shift p a b = leb_agree (suc (p + a)) (p + b) (suc a) b (λ l. omega arith) (λ l. omega arith)

-- ---- sums over lists

pub sum_by-same : {X : Type 0} (f g : X → ℕ) (xs : List X) → ((x : X) → f x ≡ g x) → sum_by f xs ≡ sum_by g xs
sum_by-same f g [] same = refl
sum_by-same f g (x ∷ xs) same = omega (arith, sum_by-cons f x xs, sum_by-cons g x xs, same x, sum_by-same f g xs same)

pub sum_by-agree : {X : Type 0} (f g : X → ℕ) (xs : List X) → All (λ x. f x ≡ g x) xs → sum_by f xs ≡ sum_by g xs
sum_by-agree f g [] same = refl
sum_by-agree f g (x ∷ xs) same =
    omega (arith, sum_by-cons f x xs, sum_by-cons g x xs, All-head (λ x. f x ≡ g x) x xs same, sum_by-agree f g xs (All-tail (λ x. f x ≡ g x) x xs same))

pub sum_by-none : {X : Type 0} (f : X → ℕ) (xs : List X) → All (λ x. f x ≡ 0) xs → sum_by f xs ≡ 0
sum_by-none f [] none = refl
sum_by-none f (x ∷ xs) none =
    omega (arith, sum_by-cons f x xs, All-head (λ x. f x ≡ 0) x xs none, sum_by-none f xs (All-tail (λ x. f x ≡ 0) x xs none))

pub sum_by-map : {X Y : Type 0} (f : Y → ℕ) (g : X → Y) (xs : List X) → sum_by f (map g xs) ≡ sum_by (λ x. f (g x)) xs
sum_by-map f g [] = refl
sum_by-map f g (x ∷ xs) = omega (arith, sum_by-cons f (g x) (map g xs), sum_by-cons (λ x. f (g x)) x xs, sum_by-map f g xs)

-- the sum of two sums, item by item
pub sum_by-both : {X : Type 0} (f g : X → ℕ) (xs : List X) → sum_by (λ x. f x + g x) xs ≡ sum_by f xs + sum_by g xs
sum_by-both f g [] = refl
sum_by-both f g (x ∷ xs) = omega (arith, sum_by-cons (λ x. f x + g x) x xs, sum_by-cons f x xs, sum_by-cons g x xs, sum_by-both f g xs)

-- sums over two lists may be taken in either order
pub sum_by-exchange : {X Y : Type 0} (f : X → Y → ℕ) (xs : List X) (ys : List Y) → sum_by (λ x. sum_by (f x) ys) xs ≡ sum_by (λ y. sum_by (λ x. f x y) xs) ys
sum_by-exchange f [] ys = sym (sum_by-none (λ y. 0) ys (λ k d l. refl))
sum_by-exchange f (x ∷ xs) ys =
    sum_by-cons (λ x. sum_by (f x) ys) x xs
    ∙ ap (λ n. sum_by (f x) ys + n) (sum_by-exchange f xs ys)
    ∙ sym (sum_by-both (f x) (λ y. sum_by (λ x. f x y) xs) ys)
    ∙ sum_by-same (λ y. f x y + sum_by (λ x. f x y) xs) (λ y. sum_by (λ x. f x y) (x ∷ xs)) ys (λ y. sym (sum_by-cons (λ x. f x y) x xs))

-- ---- sums over numbers

pub sum_below-same : (f g : ℕ → ℕ) (n : ℕ) → ((k : ℕ) → k < n → f k ≡ g k) → sum_below f n ≡ sum_below g n
sum_below-same f g zero same = refl
sum_below-same f g (suc n) same = ap₂ (λ a b. a + b) (sum_below-same f g n (λ k l. same k (omega arith))) (same n (omega arith))

sum_below-none : (f : ℕ → ℕ) (n : ℕ) → ((k : ℕ) → k < n → f k ≡ 0) → sum_below f n ≡ 0
sum_below-none f zero none = refl
sum_below-none f (suc n) none = let before = sum_below-none f n (λ k l. none k (omega arith)) in let last = none n (omega arith) in omega arith

-- a sum of one number that is not 0
pub sum_below-one : (f : ℕ → ℕ) (n k : ℕ) → k < n → ((j : ℕ) → j < n → (j ≡ k → ⊥) → f j ≡ 0) → sum_below f n ≡ f k
sum_below-one f zero k l none = absurd (omega arith)
sum_below-one f (suc n) k l none =
    elim (cases_lt k n) [
      | inl m ↦
          let before : sum_below f n ≡ f k = sum_below-one f n k m (λ j within other. none j (omega arith) other) in
          let last : f n ≡ 0 = none n (omega arith) (λ e. omega arith) in
          omega arith
      | inr m ↦
          let here : k ≡ n = omega arith in
          let before : sum_below f n ≡ 0 = sum_below-none f n (λ j within. none j (omega arith) (λ e. omega arith)) in
          before_is f n k here before
    ]
  where
    before_is : (f : ℕ → ℕ) (n k : ℕ) → k ≡ n → sum_below f n ≡ 0 → sum_below f (suc n) ≡ f k
    before_is f n k here before = let same : f k ≡ f n = ap f here in omega arith

-- nothing is left of a sum from a number on
pub sum_below-more : (f : ℕ → ℕ) (n m : ℕ) → n ≤ m → ((k : ℕ) → n ≤ k → f k ≡ 0) → sum_below f m ≡ sum_below f n
sum_below-more f n zero l none = let e : n ≡ 0 = omega arith in rw e refl
sum_below-more f n (suc m) l none =
    elim (cases_lt m n) [
      | inl h ↦ let e : n ≡ suc m = omega arith in rw e refl
      | inr h ↦ let before : sum_below f m ≡ sum_below f n = sum_below-more f n m h none in let last : f m ≡ 0 = none m h in omega arith
    ]

-- a sum over listed items, list by list
pub sum_by-listed_below : {X : Type 0} (g : X → ℕ) (f : ℕ → List X) (n : ℕ) → sum_by g (listed_below f n) ≡ sum_below (λ k. sum_by g (f k)) n
sum_by-listed_below g f zero = refl
sum_by-listed_below g f (suc n) = sum_by-append g (listed_below f n) (f n) ∙ ap (λ m. m + sum_by g (f n)) (sum_by-listed_below g f n)

-- ---- sums with a sign

pub total-append : {X : Type 0} (f : X → ℤ) (xs ys : List X) → total f (xs ++ ys) ≡ total f xs +ℤ total f ys
total-append f [] ys = omega (arith, ints)
total-append f (x ∷ xs) ys = omega (arith, ints, total-append f xs ys)

pub total-map : {X Y : Type 0} (f : Y → ℤ) (g : X → Y) (xs : List X) → total f (map g xs) ≡ total (λ x. f (g x)) xs
total-map f g [] = refl
total-map f g (x ∷ xs) = ap (λ z. f (g x) +ℤ z) (total-map f g xs)

-- a sum over the numbers below n + m in two parts
pub total_below-split : (f : ℕ → ℤ) (n m : ℕ) → total_below f (n + m) ≡ total_below f n +ℤ total_below (λ k. f (n + k)) m
total_below-split f n zero = let e : n + 0 ≡ n = omega arith in rw e (omega (arith, ints))
total_below-split f n (suc m) =
    let e : n + suc m ≡ suc (n + m) = omega arith in
    rw e (omega (arith, ints, total_below-split f n m))

pub total_below-both : (f g : ℕ → ℤ) (n : ℕ) → total_below (λ k. f k +ℤ g k) n ≡ total_below f n +ℤ total_below g n
total_below-both f g zero = omega (arith, ints)
total_below-both f g (suc n) = omega (arith, ints, total_below-both f g n)
