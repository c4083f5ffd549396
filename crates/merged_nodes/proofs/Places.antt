-- Lists with one more element at the end, read by place.
use Rattle.std.proofs.Common.{◌≡◌, ◌∙◌, ◌⊎◌, ℕ, zero, suc, ◌+◌, ◌<◌, List, [], ◌∷◌, ◌++◌, length, get_or, take, drop, set, Option, Some, None, refl, sym, ap, subst, inl, inr, arith}
use Rattle.std.specs.List.{slice_get}
use Rattle.std.proofs.lemmas.Bool.{cases_order}
use Rattle.std.proofs.lemmas.List.{drop-drop, drop-set-lt, get_or-drop, length_push, take_more}
use Rattle.std.proofs.lemmas.Option.{slice_get_past}

-- the elements before it stay
pub at-front : {X : Type 0} (xs : List X) (x : X) (place : ℕ) → place < length xs → slice_get (xs ++ x ∷ []) place ≡ slice_get xs place
at-front [] x place within = absurd (omega arith)
at-front (y ∷ xs) x zero within = refl
at-front (y ∷ xs) x (suc place) within = at-front xs x place (omega arith)

-- it stands at the end
pub at-last : {X : Type 0} (xs : List X) (x : X) → slice_get (xs ++ x ∷ []) (length xs) ≡ Some x
at-last [] x = refl
at-last (y ∷ xs) x = at-last xs x

-- there is nothing behind it
pub at-past : {X : Type 0} (xs : List X) (x : X) (place : ℕ) → length xs < place → slice_get (xs ++ x ∷ []) place ≡ None
at-past xs x place past = slice_get_past (xs ++ x ∷ []) place (omega (arith, length_push xs x))

-- what holds before it, of it, and behind it holds at each place
pub by-place : {X : Type 0} (P : ℕ → Option X → Type 0) (xs : List X) (x : X) → ((place : ℕ) → place < length xs → P place (slice_get xs place)) → P (length xs) (Some x)
    → ((place : ℕ) → length xs < place → P place None) → (place : ℕ) → P place (slice_get (xs ++ x ∷ []) place)
by-place P xs x front last past place = at (cases_order place (length xs))
  where
    at : (place ≡ length xs) ⊎ ((place < length xs) ⊎ (length xs < place)) → P place (slice_get (xs ++ x ∷ []) place)
    at (inl is) = subst (λ (n : ℕ). P n (slice_get (xs ++ x ∷ []) n)) (sym is) (subst (P (length xs)) (sym (at-last xs x)) last)
    at (inr (inl within)) = subst (P place) (sym (at-front xs x place within)) (front place within)
    at (inr (inr behind)) = subst (P place) (sym (at-past xs x place behind)) (past place behind)

-- two lists that are the same from a place on have the same element there
first-there : {X : Type 0} (xs : List X) (place : ℕ) (x : X) → get_or (drop place xs) 0 x ≡ get_or xs place x
first-there xs place x =
    let none : place + 0 ≡ place = omega arith in
    get_or-drop place xs 0 x ∙ ap (λ (n : ℕ). get_or xs n x) none

pub same-there : {X : Type 0} (xs ys : List X) (place : ℕ) (x : X) → drop place xs ≡ drop place ys → get_or xs place x ≡ get_or ys place x
same-there {X} xs ys place x same = sym (first-there xs place x) ∙ ap (λ (l : List X). get_or l 0 x) same ∙ first-there ys place x

-- and are the same behind it, whatever is put there
pub same-behind : {X : Type 0} (xs ys : List X) (place : ℕ) (x : X) → drop place xs ≡ drop place ys → drop (place + 1) (set xs place x) ≡ drop (place + 1) ys
same-behind xs ys place x same = drop-set-lt (place + 1) xs place x (omega arith) ∙ (sym (drop-drop 1 place xs) ∙ (ap (drop 1) same ∙ drop-drop 1 place ys))

-- the elements up to a place, with the one that was read there
pub take-there : {X : Type 0} (xs : List X) (place : ℕ) (x : X) → place < length xs → x ≡ get_or xs place x → take (place + 1) xs ≡ take place xs ++ x ∷ []
take-there {X} xs place x within is = take_more xs place x within ∙ ap (λ (y : X). take place xs ++ y ∷ []) (sym is)
