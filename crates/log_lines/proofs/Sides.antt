-- The open splits, as they are kept: outermost first.
use Rattle.std.proofs.Common.{◌≡◌, ℕ, suc, ◌+◌, ◌-◌, ◌<◌, Bool, true, false, List, [], ◌∷◌, ◌++◌, take, length, get_or, set, reverse, sym, ap, ◌∙◌, subst, arith, length-set, get_or-set_same}
use Rattle.std.proofs.Math.Seq.{drop-cons}
use Rattle.std.proofs.lemmas.List.{reverse-append, take-append-drop, drop_all, take-set}
use Rattle.log_lines.specs.Grammar.{after_part, is_right}

-- a list is what stands before its last element, and that
split_last : {X : Type 0} (xs : List X) (d : X) → 0 < length xs → xs ≡ take (length xs - 1) xs ++ (get_or xs (length xs - 1) d ∷ [])
split_last xs d some =
    let n : ℕ = length xs - 1 in
    let within : n < length xs = omega arith in
    let end : n + 1 ≡ length xs = omega arith in
    sym (take-append-drop n xs) ∙ ap (λ w. take n xs ++ w) (drop-cons xs n d within ∙ ap (λ w. get_or xs n d ∷ w) (drop_all (suc n) xs (omega arith)))

-- the innermost stands last
pub reverse_last : {X : Type 0} (xs : List X) (d : X) → 0 < length xs → reverse xs ≡ get_or xs (length xs - 1) d ∷ reverse (take (length xs - 1) xs)
reverse_last xs d some = ap reverse (split_last xs d some) ∙ reverse-append (take (length xs - 1) xs) (get_or xs (length xs - 1) d ∷ [])

-- where the innermost part is a left one, its right part is under way
turned : (sides : List Bool) → 0 < length sides → is_right (reverse sides) ≡ false → reverse (set sides (length sides - 1) true) ≡ after_part (reverse sides)
turned sides some left =
    let n : ℕ = length sides - 1 in
    let within : n < length sides = omega arith in
    let last = reverse_last sides false some in
    let is : get_or sides n false ≡ false = ap is_right (sym last) ∙ left in
    let same : length (set sides n true) ≡ length sides = length-set sides n true in
    let new = reverse_last (set sides n true) false (omega arith) in
    let end : length (set sides n true) - 1 ≡ n = omega arith in
    new
    ∙ ap (λ k. get_or (set sides n true) k false ∷ reverse (take k (set sides n true))) end
    ∙ ap (λ b. b ∷ reverse (take n (set sides n true))) (get_or-set_same sides n true false within)
    ∙ ap (λ w. true ∷ reverse w) (take-set sides n true)
    ∙ sym (ap after_part last ∙ ap (λ b. after_part (b ∷ reverse (take n sides))) is)

-- the same, where the length has another name
pub turned_at : (sides : List Bool) (count : ℕ) → count ≡ length sides → 0 < length sides → is_right (reverse sides) ≡ false → reverse (set sides (count - 1) true) ≡ after_part (reverse sides)
turned_at sides count same some left = subst (λ k. reverse (set sides (k - 1) true) ≡ after_part (reverse sides)) (sym same) (turned sides some left)
