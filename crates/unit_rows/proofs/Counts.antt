-- How many items of a list pass a test.
use Rattle.std.proofs.Common.{◌≡◌, ℕ, ◌+◌, ◌<◌, ◌≤◌, Bool, true, false, cond, ◌||◌, List, [], ◌∷◌, length, get_or, take, sum_by, count_by, refl, sym, arith, inl, inr}
use Rattle.std.specs.List.{AllPairs}
use Rattle.std.proofs.lemmas.List.{get_or-take, length-take}
use Rattle.std.proofs.lemmas.List.Sums.{sum_by-cons, sum_by_more_le, get_or-le-sum_by, sum_by-le-sum_by}
use Rattle.std.proofs.lemmas.Bool.{cond-true, cond-false, cases_Bool, false_from_ne_true}
use Rattle.time_grid.proofs.Lists.{AllPairs-head, AllPairs-tail}
use Rattle.time_grid.proofs.OnePlan.{sum_by-zero}
use Rattle.time_grid.proofs.PlanPoints.{some_item}

-- an item that passes is counted
pub one_counted : {X : Type 0} (p : X → Bool) (xs : List X) (i : ℕ) (d : X) → i < length xs → p (get_or xs i d) ≡ true → 1 ≤ count_by p xs
one_counted p xs i d l t =
    let e = cond-true {A = ℕ} (p (get_or xs i d)) 1 0 t in
    omega (arith, e, get_or-le-sum_by (λ x. cond (p x) 1 0) xs i d l)

-- so are two
pub two_counted : {X : Type 0} (p : X → Bool) (xs : List X) (i j : ℕ) (d : X) → i < j → j < length xs → p (get_or xs i d) ≡ true → p (get_or xs j d) ≡ true → 2 ≤ count_by p xs
two_counted p xs i j d l m t u =
    let e = cond-true {A = ℕ} (p (get_or xs j d)) 1 0 u in
    let first : p (get_or (take j xs) i d) ≡ true = rw (get_or-take j xs i d l) t in
    let before : 1 ≤ count_by p (take j xs) = one_counted p (take j xs) i d (omega (arith, length-take j xs)) first in
    omega (arith, e, before, sum_by_more_le (λ x. cond (p x) 1 0) xs j d m)

-- where no two items both pass, one is counted at most
pub at_most_one : {X : Type 0} (p : X → Bool) (xs : List X) → AllPairs (λ a b. p a ≡ true → p b ≡ true → ⊥) xs → count_by p xs ≤ 1
at_most_one p [] h = omega arith
at_most_one p (x ∷ xs) h =
    let more = sum_by-cons (λ y. cond (p y) 1 0) x xs in
    elim (cases_Bool (p x)) [
      | inl t ↦
          let none : count_by p xs ≡ 0 = sum_by-zero (λ y. cond (p y) 1 0) xs (λ k d l.
          cond-false {A = ℕ} (p (get_or xs k d)) 1 0 (false_from_ne_true (p (get_or xs k d)) (AllPairs-head (λ a b. p a ≡ true → p b ≡ true → ⊥) x xs h k d l t))) in
          omega (arith, more, none, cond-true {A = ℕ} (p x) 1 0 t)
      | inr t ↦
          let rest = at_most_one p xs (AllPairs-tail (λ a b. p a ≡ true → p b ≡ true → ⊥) x xs h) in
          omega (arith, more, rest, cond-false {A = ℕ} (p x) 1 0 t)
    ]

-- an item that passes
pub record Passes {X : Type 0} (p : X → Bool) (xs : List X) : Type 0 where
  pub place : ℕ
  pub within : place < length xs
  pub passes : (d : X) → p (get_or xs place d) ≡ true

counted_passes : (b : Bool) → 0 < cond b 1 0 → b ≡ true
counted_passes true h = refl
counted_passes false h = absurd (omega arith)

-- where one is counted, an item passes
pub passes_one : {X : Type 0} (p : X → Bool) (xs : List X) → 1 ≤ count_by p xs → Passes p xs
passes_one p xs h =
    let found = some_item (λ x. cond (p x) 1 0) xs (omega arith) in
    record { place = found.0; within = found.1.0; passes = λ d. counted_passes (p (get_or xs found.0 d)) (found.1.1 d) }

-- the sum of two sums
pub sum_by-add : {X : Type 0} (f g : X → ℕ) (xs : List X) → sum_by (λ x. f x + g x) xs ≡ sum_by f xs + sum_by g xs
sum_by-add f g [] = refl
sum_by-add f g (x ∷ xs) =
    let a = sum_by-cons (λ y. f y + g y) x xs in
    let b = sum_by-cons f x xs in
    let c = sum_by-cons g x xs in
    let ih = sum_by-add f g xs in
    omega (arith, a, b, c, ih)

either_most : (a b : Bool) → cond (a || b) 1 0 ≤ cond a 1 0 + cond b 1 0
either_most true true = omega arith
either_most true false = omega arith
either_most false true = omega arith
either_most false false = omega arith

-- those that pass one of two tests
pub either_counted : {X : Type 0} (p q : X → Bool) (xs : List X) → count_by (λ x. p x || q x) xs ≤ count_by p xs + count_by q xs
either_counted p q xs =
    let all = sum_by-add (λ x. cond (p x) 1 0) (λ x. cond (q x) 1 0) xs in
    let less = sum_by-le-sum_by (λ x. cond (p x || q x) 1 0) (λ x. cond (p x) 1 0 + cond (q x) 1 0) xs (λ x. either_most (p x) (q x)) in
    omega (arith, all, less)

-- two tests that pass together are one
pub same_test : (a b : Bool) → (a ≡ true → b ≡ true) → (b ≡ true → a ≡ true) → a ≡ b
same_test true b h k = sym (h refl)
same_test false true h k = k refl
same_test false false h k = refl
