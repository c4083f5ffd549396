-- Lists that are made item by item, and how many receipts there are of an amount.
use Rattle.std.proofs.Common.{◌≡◌, ℕ, suc, ◌+◌, ◌-◌, ◌<◌, ◌≤◌, List, [], ◌∷◌, ◌++◌, length, get_or, take, drop, ap, ◌∙◌, arith}
use Rattle.std.specs.Prelude.{replicate, ◌/◌, ◌%◌, ◌==◌}
use Rattle.std.proofs.lemmas.Bool.{cond-false, ne_eqb}
use Rattle.std.proofs.lemmas.List.{take_more, length-take-le, length-append, length-replicate, length-drop, get_or-drop}
use Rattle.stn_model.specs.declared.plant.Receipt.{Receipt}
use Rattle.rolled_plant.specs.Lists.{map_from}
use Rattle.rolled_plant.specs.Receipts.{one_receipt, some_receipt, receipts_of}

map_from-append : {X Y : Type 0} (f : ℕ → X → Y) (n : ℕ) (xs ys : List X) → map_from f n (xs ++ ys) ≡ map_from f n xs ++ map_from f (n + length xs) ys
map_from-append f n [] ys = let e : n ≡ n + 0 = omega arith in ap (λ (m : ℕ). map_from f m ys) e
map_from-append f n (x ∷ xs) ys =
    let e : suc n + length xs ≡ n + length (x ∷ xs) = omega arith in
    ap (λ rest. f n x ∷ rest) (map_from-append f (suc n) xs ys ∙ ap (λ (m : ℕ). map_from f (suc n) xs ++ map_from f m ys) e)

-- one more item of a list is taken
map_from-more : {X Y : Type 0} (f : ℕ → X → Y) (n : ℕ) (xs : List X) (k : ℕ) (d : X) → k < length xs → map_from f n (take (k + 1) xs) ≡ map_from f n (take k xs) ++ f (n + k) (get_or xs k d) ∷ []
map_from-more f n xs k d l =
    let e : n + length (take k xs) ≡ n + k = omega (arith, length-take-le k xs (omega arith)) in
    ap (map_from f n) (take_more xs k d l) ∙ map_from-append f n (take k xs) (get_or xs k d ∷ []) ∙ ap (λ (m : ℕ). map_from f n (take k xs) ++ f m (get_or xs k d) ∷ []) e

-- the same of a list whose items are numbered from 0 on
pub map_from_more : {X Y : Type 0} (f : ℕ → X → Y) (xs : List X) (k : ℕ) (d : X) → k < length xs → map_from f 0 (take (k + 1) xs) ≡ map_from f 0 (take k xs) ++ f k (get_or xs k d) ∷ []
map_from_more f xs k d l =
    let e : 0 + k ≡ k = omega arith in
    map_from-more f 0 xs k d l ∙ ap (λ (m : ℕ). map_from f 0 (take k xs) ++ f m (get_or xs k d) ∷ []) e

-- the same of what is left of a list, whose items keep their numbers
pub map_left_more : {X Y : Type 0} (f : ℕ → X → Y) (n : ℕ) (xs : List X) (k : ℕ) (d : X) → n ≤ k → k < length xs
    → map_from f n (take (k + 1 - n) (drop n xs)) ≡ map_from f n (take (k - n) (drop n xs)) ++ f k (get_or xs k d) ∷ []
map_left_more f n xs k d less l =
    let place : n + (k - n) ≡ k = omega arith in
    let next : k + 1 - n ≡ k - n + 1 = omega arith in
    let there : k - n < length (drop n xs) = omega (arith, length-drop n xs) in
    let item : get_or (drop n xs) (k - n) d ≡ get_or xs k d = get_or-drop n xs (k - n) d ∙ ap (λ (m : ℕ). get_or xs m d) place in
    ap (λ (m : ℕ). map_from f n (take m (drop n xs))) next
    ∙ map_from-more f n (drop n xs) (k - n) d there
    ∙ ap (λ (m : ℕ). map_from f n (take (k - n) (drop n xs)) ++ f m (get_or (drop n xs) (k - n) d) ∷ []) place
    ∙ ap (λ x. map_from f n (take (k - n) (drop n xs)) ++ f k x ∷ []) item

-- ---- how many receipts there are of an amount

pub count_whole : (state time amount : ℕ) → amount % 1000000000 ≡ 0 → amount / 1000000000 ≡ length (receipts_of state time amount)
unfolding receipts_of
count_whole state time amount e =
    let whole = one_receipt state time 1000000000 in
    let parts = length-append (replicate (amount / 1000000000) whole) (some_receipt state time (amount % 1000000000)) in
    let many = length-replicate (amount / 1000000000) whole in
    let none : length (some_receipt state time (amount % 1000000000)) ≡ 0 = ap (λ (n : ℕ). length (some_receipt state time n)) e in
    omega (arith, parts, many, none)

pub count_rest : (state time amount : ℕ) → (amount % 1000000000 ≡ 0 → ⊥) → amount / 1000000000 + 1 ≡ length (receipts_of state time amount)
unfolding receipts_of
count_rest state time amount e =
    let whole = one_receipt state time 1000000000 in
    let rest = one_receipt state time (amount % 1000000000) ∷ [] in
    let parts = length-append (replicate (amount / 1000000000) whole) (some_receipt state time (amount % 1000000000)) in
    let many = length-replicate (amount / 1000000000) whole in
    let one : length (some_receipt state time (amount % 1000000000)) ≡ 1 = ap length (cond-false {A = List Receipt} (amount % 1000000000 == 0) [] rest (ne_eqb (amount % 1000000000) 0 e)) in
    omega (arith, parts, many, one)
