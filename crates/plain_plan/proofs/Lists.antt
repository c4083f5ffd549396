-- Tests over a list, one item after the other.
use Rattle.std.proofs.Common.{◌≡◌, ℕ, ◌+◌, ◌<◌, ◌≤◌, List, length, get_or, take, arith, refl, true, false, sym, subst}
use Rattle.std.specs.Prelude.{All, AllPairs, IsTrue}
use Rattle.std.proofs.lemmas.Bool.{false≢true}
use Rattle.std.proofs.lemmas.List.{take_more, get_or-take, get_or_default, length-take-le}
use Rattle.std.proofs.lemmas.List.Quantifiers.{all_pairs_push}
use Rattle.std.proofs.lemmas.List.Elements.{All-get_or}
use Rattle.std.proofs.Math.Seq.{take-length}

-- a list that ends at i is all that has been taken of it
take_whole : {X : Type 0} (xs : List X) (i : ℕ) → length xs ≤ i → i ≤ length xs → take i xs ≡ xs
take_whole xs i h k = let e : i ≡ length xs = omega arith in rw e (take-length xs)

-- at the end of the list, each item has passed
pub all_done : {X : Type 0} (P : X → Type 0) (xs : List X) (i : ℕ) → length xs ≤ i → i ≤ length xs → All P (take i xs) → (IsTrue true → All P xs) × (All P xs → IsTrue true)
all_done P xs i h k all = (λ _. subst (All P) (take_whole xs i h k) all, λ _. refl)

-- an item has failed
pub all_failed : {X : Type 0} (P : X → Type 0) (xs : List X) (i : ℕ) (d : X) → i < length xs → (P (get_or xs i d) → IsTrue false) → (IsTrue false → All P xs) × (All P xs → IsTrue false)
all_failed P xs i d h fails = (λ e. absurd (false≢true e), λ all. fails (All-get_or P xs i d h all))

-- one item more keeps apart from those before it
pub pairs_more : {X : Type 0} (R : X → X → Type 0) (xs : List X) (i : ℕ) (d : X) → i < length xs → AllPairs R (take i xs) → All (λ a. R a (get_or xs i d)) (take i xs) → AllPairs R (take (i + 1) xs)
pairs_more R xs i d h pairs all = subst (AllPairs R) (sym (take_more xs i d h)) (all_pairs_push R (take i xs) (get_or xs i d) pairs (λ k e l. all k e l))

-- at the end of the list, each pair has passed
pub pairs_done : {X : Type 0} (R : X → X → Type 0) (xs : List X) (i : ℕ) → length xs ≤ i → i ≤ length xs → AllPairs R (take i xs) → (IsTrue true → AllPairs R xs) × (AllPairs R xs → IsTrue true)
pairs_done R xs i h k all = (λ _. subst (AllPairs R) (take_whole xs i h k) all, λ _. refl)

-- an item has failed against one before it
pub pairs_failed : {X : Type 0} (R : X → X → Type 0) (xs : List X) (i : ℕ) (d : X) → i < length xs → (All (λ a. R a (get_or xs i d)) (take i xs) → IsTrue false) → (IsTrue false → AllPairs R xs) × (AllPairs R xs → IsTrue false)
pairs_failed {X} R xs i d h fails = (
  λ e. absurd (false≢true e),
  λ pairs. fails (λ k e l.
      let kl : k < i = omega (arith, length-take-le i xs (omega arith)) in
      let first : get_or (take i xs) k e ≡ get_or xs k e = get_or-take i xs k e kl in
      let second : get_or xs i e ≡ get_or xs i d = get_or_default xs i e d h in
      subst (λ (x : X). R x (get_or xs i d)) (sym first) (subst (λ (y : X). R (get_or xs k e) y) second (pairs k i e kl h))),
)
