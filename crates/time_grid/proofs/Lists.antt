-- Lists: ranges, membership, and what holds of each two places.
use Rattle.std.proofs.Common.{◌≡◌, ℕ, zero, suc, ◌+◌, ◌<◌, ◌≤◌, ◌⊎◌, Bool, true, List, [], ◌∷◌, ◌++◌, length, get_or, map, filter, sym, refl, ap, ◌∙◌, subst, inl, inr, arith, append_assoc, add-zero, zero-add, add-one}
use Rattle.std.specs.List.{All, AllPairs, Contains, flat_map, range_with_len}
use Rattle.std.proofs.lemmas.List.{length_push, append_assoc, get_or-append-add, length-map}
use Rattle.std.proofs.lemmas.List.Elements.{All-nil, All-cons, All-head, All-tail, All-append, All-map, Contains-append_left, Contains-append_right}
use Rattle.std.proofs.lemmas.List.Kept.{AllPairs-cons}
use Rattle.std.proofs.lemmas.Bool.{cases_Bool, cases_eq}

range-suc : (a n : ℕ) → range_with_len a (suc n) ≡ range_with_len a n ++ (a + n) ∷ []
range-suc a zero = rw add-zero
range-suc a (suc n) =
    let e : (a + 1) + n ≡ a + suc n = omega arith in
    ap (λ xs. a ∷ xs) (range-suc (a + 1) n ∙ ap (λ k. range_with_len (a + 1) n ++ k ∷ []) e)

-- one more number at the end of a range
pub range-push : (a n : ℕ) → range_with_len a (n + 1) ≡ range_with_len a n ++ (a + n) ∷ []
range-push a n = rw add-one (range-suc a n)

places_from : {X : Type 0} (d : X) (ys zs : List X) → map (λ k. get_or (ys ++ zs) k d) (range_with_len (length ys) (length zs)) ≡ zs
places_from d ys [] = refl
places_from d ys (z ∷ zs) =
    let e : length (ys ++ z ∷ []) ≡ length ys + 1 = length_push ys z in
    let here : get_or (ys ++ z ∷ zs) (length ys + 0) d ≡ z = get_or-append-add ys (z ∷ zs) 0 d in
    let here2 : get_or (ys ++ z ∷ zs) (length ys) d ≡ z = rw add-zero at here in
    let more = places_from d (ys ++ z ∷ []) zs in
    let more2 = rw (e, append_assoc) at more in
    rw here2 (ap (λ xs. z ∷ xs) more2)

-- the same of a range from 0
pub range-more : (n : ℕ) → range_with_len 0 (suc n) ≡ range_with_len 0 n ++ n ∷ []
range-more n = range-suc 0 n ∙ ap (λ k. range_with_len 0 n ++ k ∷ []) (zero-add n)

-- the elements of a list by their places are the list
pub map-range_get_or : {X : Type 0} (xs : List X) (d : X) → map (λ k. get_or xs k d) (range_with_len 0 (length xs)) ≡ xs
map-range_get_or xs d = places_from d [] xs

pub Contains-here : {X : Type 0} (x : X) (xs : List X) → Contains (x ∷ xs) x
Contains-here x xs = (0, omega arith, refl)

pub Contains-there : {X : Type 0} (y : X) (xs : List X) (x : X) → Contains xs x → Contains (y ∷ xs) x
Contains-there y xs x h = (suc h.0, omega (arith, h.1), h.2)

pub Contains-cases : {X : Type 0} (y : X) (xs : List X) (x : X) → Contains (y ∷ xs) x → (y ≡ x) ⊎ Contains xs x
Contains-cases y xs x h = cases h.0 h.1 h.2
  where
    cases : (k : ℕ) → k < length (y ∷ xs) → get_or (y ∷ xs) k x ≡ x → (y ≡ x) ⊎ Contains xs x
    cases zero l e = inl e
    cases (suc k) l e = inr (k, omega arith, e)

pub Contains-map : {X Y : Type 0} (f : X → Y) (xs : List X) (x : X) → Contains xs x → Contains (map f xs) (f x)
Contains-map f [] x h = absurd (omega (arith, h.1))
Contains-map f (y ∷ xs) x h =
    elim (Contains-cases y xs x h) [
      | inl e ↦ subst (λ z. Contains (map f (y ∷ xs)) (f z)) e (Contains-here (f y) (map f xs))
      | inr k ↦ Contains-there (f y) (map f xs) (f x) (Contains-map f xs x k)
    ]

pub Contains-filter : {X : Type 0} (p : X → Bool) (xs : List X) (x : X) → p x ≡ true → Contains xs x → Contains (filter p xs) x
Contains-filter p [] x t h = absurd (omega (arith, h.1))
Contains-filter p (y ∷ xs) x t h =
    elim (Contains-cases y xs x h) [
      | inl e ↦ let u : p y ≡ true = subst (λ z. p z ≡ true) (sym e) t in
          rw u (subst (Contains (y ∷ filter p xs)) e (Contains-here y (filter p xs)))
      | inr k ↦ elim (cases_Bool (p y)) [
        | inl u ↦ rw u (Contains-there y (filter p xs) x (Contains-filter p xs x t k))
        | inr u ↦ rw u (Contains-filter p xs x t k)
      ]
    ]

pub Contains-range : (a n k : ℕ) → a ≤ k → k < a + n → Contains (range_with_len a n) k
Contains-range a zero k l h = absurd (omega arith)
Contains-range a (suc n) k l h =
    elim (cases_eq a k) [
      | inl e ↦ subst (Contains (a ∷ range_with_len (a + 1) n)) e (Contains-here a (range_with_len (a + 1) n))
      | inr e ↦ Contains-there a (range_with_len (a + 1) n) k (Contains-range (a + 1) n k (omega arith) (omega arith))
    ]

pub Contains-flat_map : {X Y : Type 0} (f : X → List Y) (xs : List X) (x : X) (y : Y) → Contains xs x → Contains (f x) y → Contains (flat_map f xs) y
Contains-flat_map f [] x y h g = absurd (omega (arith, h.1))
Contains-flat_map f (z ∷ xs) x y h g =
    elim (Contains-cases z xs x h) [
      | inl e ↦ Contains-append_left (f z) (flat_map f xs) y (subst (λ w. Contains (f w) y) (sym e) g)
      | inr k ↦ Contains-append_right (f z) (flat_map f xs) y (Contains-flat_map f xs x y k g)
    ]

pub All-flat_map : {X Y : Type 0} (P : Y → Type 0) (f : X → List Y) (xs : List X) → All (λ x. All P (f x)) xs → All P (flat_map f xs)
All-flat_map P f [] h = All-nil P
All-flat_map P f (x ∷ xs) h =
    All-append P (f x) (flat_map f xs) (All-head (λ z. All P (f z)) x xs h) (All-flat_map P f xs (All-tail (λ z. All P (f z)) x xs h))

pub All-range : (a n : ℕ) → All (λ k. (a ≤ k) × (k < a + n)) (range_with_len a n)
All-range a zero = All-nil (λ k. (a ≤ k) × (k < a + 0))
All-range a (suc n) =
    All-cons (λ k. (a ≤ k) × (k < a + suc n)) a (range_with_len (a + 1) n) (omega arith, omega arith)
    (λ k d l. let h = All-range (a + 1) n k d l in (omega (arith, h.0), omega (arith, h.1)))

pub All-below : (n : ℕ) → All (λ k. k < n) (range_with_len 0 n)
All-below n k d l = let h = All-range 0 n k d l in omega (arith, h.1)

pub AllPairs-head : {X : Type 0} (R : X → X → Type 0) (x : X) (xs : List X) → AllPairs R (x ∷ xs) → All (R x) xs
AllPairs-head R x xs h k d l = h 0 (suc k) d (omega arith) (omega arith)

pub AllPairs-tail : {X : Type 0} (R : X → X → Type 0) (x : X) (xs : List X) → AllPairs R (x ∷ xs) → AllPairs R xs
AllPairs-tail R x xs h i j d l m = h (suc i) (suc j) d (omega arith) (omega arith)

pub AllPairs-nil : {X : Type 0} (R : X → X → Type 0) → AllPairs R []
AllPairs-nil R i j d l m = absurd (omega arith)

pub AllPairs-append : {X : Type 0} (R : X → X → Type 0) (xs ys : List X) → AllPairs R xs → AllPairs R ys → All (λ x. All (R x) ys) xs → AllPairs R (xs ++ ys)
AllPairs-append R [] ys p q h = q
AllPairs-append R (x ∷ xs) ys p q h =
    AllPairs-cons R x (xs ++ ys)
    (All-append (R x) xs ys (AllPairs-head R x xs p) (All-head (λ z. All (R z) ys) x xs h))
    (AllPairs-append R xs ys (AllPairs-tail R x xs p) q (All-tail (λ z. All (R z) ys) x xs h))

pub AllPairs-map : {X Y : Type 0} (R : Y → Y → Type 0) (f : X → Y) (xs : List X) → AllPairs (λ a b. R (f a) (f b)) xs → AllPairs R (map f xs)
AllPairs-map R f [] h = AllPairs-nil R
AllPairs-map R f (x ∷ xs) h =
    AllPairs-cons R (f x) (map f xs) (All-map (R (f x)) f xs (AllPairs-head (λ a b. R (f a) (f b)) x xs h))
    (AllPairs-map R f xs (AllPairs-tail (λ a b. R (f a) (f b)) x xs h))

pub AllPairs-range : (a n : ℕ) → AllPairs (λ j k. j < k) (range_with_len a n)
AllPairs-range a zero = AllPairs-nil (λ j k. j < k)
AllPairs-range a (suc n) =
    AllPairs-cons (λ j k. j < k) a (range_with_len (a + 1) n) (λ k d l. let h = All-range (a + 1) n k d l in omega (arith, h.0))
    (AllPairs-range (a + 1) n)

-- pieces in order, each in order, are in order
pub AllPairs-flat_map : {X Y : Type 0} (S : X → X → Type 0) (R : Y → Y → Type 0) (f : X → List Y) →
    ((x : X) → AllPairs R (f x)) → ((x z : X) → S x z → All (λ y. All (R y) (f z)) (f x)) →
    (xs : List X) → AllPairs S xs → AllPairs R (flat_map f xs)
AllPairs-flat_map S R f each between [] h = AllPairs-nil R
AllPairs-flat_map S R f each between (x ∷ xs) h =
    AllPairs-append R (f x) (flat_map f xs) (each x) (AllPairs-flat_map S R f each between xs (AllPairs-tail S x xs h))
    (λ k d l. All-flat_map (R (get_or (f x) k d)) f xs
    (λ j e m. between x (get_or xs j e) (AllPairs-head S x xs h j e m) k d l))

pub length-filter_map : {X Y : Type 0} (p : X → Bool) (f : X → Y) (xs : List X) → length (map f (filter p xs)) ≡ length (filter p xs)
length-filter_map p f xs = simp length-map
