-- Lists that grow number by number.
use Rattle.std.proofs.Common.{◌≡◌, ℕ, ◌+◌, zero, suc, List, [], ◌∷◌, ◌++◌, map, ap, sym, ◌∙◌, arith, append_assoc}
use Rattle.std.specs.List.{flat_map, range_with_len}
use Rattle.std.proofs.lemmas.List.{append-nil}
use Rattle.std.proofs.lemmas.List.FromFn.{map-range_with_len_more}

pieces_from : {A : Type 0} (f : ℕ → List A) (a n : ℕ) → flat_map f (range_with_len a (suc n)) ≡ flat_map f (range_with_len a n) ++ f (a + n)
pieces_from f a zero =
    let e : a ≡ a + 0 = omega arith in
    append-nil (f a) ∙ ap f e
pieces_from f a (suc n) =
    let e : (a + 1) + n ≡ a + suc n = omega arith in
    ap (λ xs. f a ++ xs) (pieces_from f (a + 1) n ∙ ap (λ k. flat_map f (range_with_len (a + 1) n) ++ f k) e)
    ∙ sym (append_assoc (f a) (flat_map f (range_with_len (a + 1) n)) (f (a + suc n)))

-- a text that had the pieces of the numbers below n, and gets the one of n
pub pieces_next : {A : Type 0} (f : ℕ → List A) (old text new : List A) (n : ℕ) → text ≡ old ++ flat_map f (range_with_len 0 n) → new ≡ text ++ f n → new ≡ old ++ flat_map f (range_with_len 0 (n + 1))
pieces_next f old text new n before more =
    let e : suc n ≡ n + 1 = omega arith in
    let z : 0 + n ≡ n = omega arith in
    more ∙ ap (λ xs. xs ++ f n) before ∙ append_assoc old (flat_map f (range_with_len 0 n)) (f n)
    ∙ ap (λ xs. old ++ xs) (sym (pieces_from f 0 n ∙ ap (λ k. flat_map f (range_with_len 0 n) ++ f k) z))
    ∙ ap (λ k. old ++ flat_map f (range_with_len 0 k)) e

-- a list that had the items of the numbers below n, and gets the one of n
pub items_next : {A : Type 0} (f : ℕ → A) (old new : List A) (n : ℕ) → old ≡ map f (range_with_len 0 n) → new ≡ old ++ f n ∷ [] → new ≡ map f (range_with_len 0 (n + 1))
items_next f old new n before more = more ∙ ap (λ xs. xs ++ f n ∷ []) before ∙ sym (map-range_with_len_more f 0 n n (omega arith))
