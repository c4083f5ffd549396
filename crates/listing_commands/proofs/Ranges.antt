-- Lists that grow number by number.
use Rattle.std.proofs.Common.{◌≡◌, ℕ, ◌+◌, List, [], ◌∷◌, ◌++◌, ap, sym, ◌∙◌, arith}
use Rattle.std.specs.List.{flat_map, range_with_len}
use Rattle.std.proofs.lemmas.List.{map-id, flat_map_more}
use Rattle.std.proofs.lemmas.List.FromFn.{map-range_with_len_more}

-- the numbers below n + 1 are those below n, and n
pub range_next : (n : ℕ) → range_with_len 0 (n + 1) ≡ range_with_len 0 n ++ n ∷ []
range_next n =
    sym (map-id (range_with_len 0 (n + 1))) ∙ map-range_with_len_more (λ k. k) 0 n n (omega arith)
    ∙ ap (λ ks. ks ++ n ∷ []) (map-id (range_with_len 0 n))

-- a text that had the pieces of the numbers below n, and gets the one of n
pub pieces_next : {A : Type 0} (f : ℕ → List A) (old text new : List A) (n : ℕ) → text ≡ old ++ flat_map f (range_with_len 0 n) → new ≡ text ++ f n → new ≡ old ++ flat_map f (range_with_len 0 (n + 1))
pieces_next f old text new n before more =
    more ∙ ap (λ xs. xs ++ f n) before ∙ flat_map_more f old (range_with_len 0 n) n
    ∙ ap (λ ks. old ++ flat_map f ks) (sym (range_next n))
