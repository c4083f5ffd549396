-- Lists that grow number by number.
use Rattle.std.proofs.Common.{◌≡◌, refl, ℕ, ◌+◌, Bool, true, false, List, [], ◌∷◌, ◌++◌, map, append_assoc, append-nil, ap, sym, ◌∙◌, arith}
use Rattle.std.specs.Prelude.{filter}
use Rattle.std.specs.List.{flat_map, range_with_len}
use Rattle.std.proofs.lemmas.List.{map-id, map-append, flat_map_more}
use Rattle.std.proofs.lemmas.List.Elements.{filter-append}
use Rattle.std.proofs.lemmas.List.Concat.{flat_map-append}
use Rattle.std.proofs.lemmas.List.FromFn.{map-range_with_len_more}

-- the numbers below n + 1 are those below n, and n
pub range_next : (n : ℕ) → range_with_len 0 (n + 1) ≡ range_with_len 0 n ++ n ∷ []
range_next n =
    sym (map-id (range_with_len 0 (n + 1))) ∙ map-range_with_len_more (λ k. k) 0 n n (omega arith)
    ∙ ap (λ ks. ks ++ n ∷ []) (map-id (range_with_len 0 n))

-- a list that had the pieces of the numbers below n, and gets the one of n
pub pieces_next : {A : Type 0} (f : ℕ → List A) (old list new : List A) (n : ℕ) → list ≡ old ++ flat_map f (range_with_len 0 n) → new ≡ list ++ f n → new ≡ old ++ flat_map f (range_with_len 0 (n + 1))
pieces_next f old list new n before more =
    more ∙ ap (λ xs. xs ++ f n) before ∙ flat_map_more f old (range_with_len 0 n) n
    ∙ ap (λ ks. old ++ flat_map f ks) (sym (range_next n))

-- a list that had the items of the numbers below n, and gets the one of n
pub items_next : {A : Type 0} (f : ℕ → A) (old list new : List A) (n : ℕ) → list ≡ old ++ map f (range_with_len 0 n) → new ≡ list ++ f n ∷ [] → new ≡ old ++ map f (range_with_len 0 (n + 1))
items_next f old list new n before more =
    more ∙ ap (λ xs. xs ++ f n ∷ []) before ∙ append_assoc old (map f (range_with_len 0 n)) (f n ∷ [])
    ∙ ap (λ ys. old ++ ys) (sym (map-append f (range_with_len 0 n) (n ∷ [])) ∙ ap (map f) (sym (range_next n)))

-- the chosen numbers below n + 1: those below n, and n where it is chosen
some_next : (p : ℕ → Bool) (n : ℕ) → filter p (range_with_len 0 (n + 1)) ≡ filter p (range_with_len 0 n) ++ filter p (n ∷ [])
some_next p n = ap (filter p) (range_next n) ∙ filter-append p (range_with_len 0 n) (n ∷ [])

pub taken_next : (p : ℕ → Bool) (n : ℕ) → p n ≡ true → filter p (range_with_len 0 (n + 1)) ≡ filter p (range_with_len 0 n) ++ n ∷ []
taken_next p n is = some_next p n ∙ (rw is refl)

pub left_next : (p : ℕ → Bool) (n : ℕ) → p n ≡ false → filter p (range_with_len 0 (n + 1)) ≡ filter p (range_with_len 0 n)
left_next p n is = some_next p n ∙ (rw is (append-nil (filter p (range_with_len 0 n))))

-- items of the chosen numbers: one more, or none
pub item_taken : {A : Type 0} (f : ℕ → A) (p : ℕ → Bool) (old list new : List A) (n : ℕ) → p n ≡ true → list ≡ old ++ map f (filter p (range_with_len 0 n)) → new ≡ list ++ f n ∷ []
    → new ≡ old ++ map f (filter p (range_with_len 0 (n + 1)))
item_taken f p old list new n is before more =
    more ∙ ap (λ xs. xs ++ f n ∷ []) before ∙ append_assoc old (map f (filter p (range_with_len 0 n))) (f n ∷ [])
    ∙ ap (λ ys. old ++ ys) (sym (map-append f (filter p (range_with_len 0 n)) (n ∷ [])) ∙ ap (map f) (sym (taken_next p n is)))

pub item_left : {A : Type 0} (f : ℕ → A) (p : ℕ → Bool) (old list : List A) (n : ℕ) → p n ≡ false → list ≡ old ++ map f (filter p (range_with_len 0 n))
    → list ≡ old ++ map f (filter p (range_with_len 0 (n + 1)))
item_left f p old list n is before = before ∙ ap (λ ns. old ++ map f ns) (sym (left_next p n is))

-- pieces of the chosen numbers: one more, or none
pub piece_taken : {A : Type 0} (f : ℕ → List A) (p : ℕ → Bool) (old list new : List A) (n : ℕ) → p n ≡ true → list ≡ old ++ flat_map f (filter p (range_with_len 0 n)) → new ≡ list ++ f n
    → new ≡ old ++ flat_map f (filter p (range_with_len 0 (n + 1)))
piece_taken f p old list new n is before more =
    more ∙ ap (λ xs. xs ++ f n) before ∙ flat_map_more f old (filter p (range_with_len 0 n)) n
    ∙ ap (λ ns. old ++ flat_map f ns) (sym (taken_next p n is))

pub piece_left : {A : Type 0} (f : ℕ → List A) (p : ℕ → Bool) (old list : List A) (n : ℕ) → p n ≡ false → list ≡ old ++ flat_map f (filter p (range_with_len 0 n))
    → list ≡ old ++ flat_map f (filter p (range_with_len 0 (n + 1)))
piece_left f p old list n is before = before ∙ ap (λ ns. old ++ flat_map f ns) (sym (left_next p n is))
