-- Texts that stand in others.
use Rattle.std.proofs.Common.{◌≡◌, ℕ, ◌<◌, ◌+◌, Bool, true, false, cond, List, [], ◌∷◌, ◌++◌, zero, suc, ap, sym, ◌∙◌, refl, append_assoc, append-nil, filter, flat_map, arith, subst}
use Rattle.std.specs.List.{range_with_len}
use Rattle.plan_picture.specs.Laws.{StandsIn}

pub stands_here : (text : List ℕ) → StandsIn text text
stands_here text = ([], ([], sym (append-nil text)))

pub stands_behind : (part front text : List ℕ) → StandsIn part text → StandsIn part (front ++ text)
stands_behind part front text s = (front ++ s.0, (s.1.0, ap (λ t. front ++ t) s.1.1 ∙ sym (append_assoc front s.0 (part ++ s.1.0))))

pub stands_before : (part text back : List ℕ) → StandsIn part text → StandsIn part (text ++ back)
stands_before part text back s =
    (s.0, (s.1.0 ++ back, ap (λ t. t ++ back) s.1.1 ∙ append_assoc s.0 (part ++ s.1.0) back ∙ ap (λ t. s.0 ++ t) (append_assoc part s.1.0 back)))

-- what stands in the text of a number stands in the texts of numbers from a first one on
stands_from : (f : ℕ → List ℕ) (part : List ℕ) (first count k : ℕ) → k < count → StandsIn part (f (first + k)) → StandsIn part (flat_map f (range_with_len first count))
stands_from f part first zero k less s = absurd (omega (arith, less))
stands_from f part first (suc count) zero less s =
    stands_before part (f first) (flat_map f (range_with_len (first + 1) count)) (subst (λ n. StandsIn part (f n)) (omega arith) s)
stands_from f part first (suc count) (suc k) less s =
    stands_behind part (f first) (flat_map f (range_with_len (first + 1) count))
    (stands_from f part (first + 1) count k (omega (arith, less)) (subst (λ n. StandsIn part (f n)) (omega arith) s))

pub stands_of : (f : ℕ → List ℕ) (part : List ℕ) (count k : ℕ) → k < count → StandsIn part (f k) → StandsIn part (flat_map f (range_with_len 0 count))
stands_of f part count k less s = stands_from f part 0 count k less (subst (λ n. StandsIn part (f n)) (omega arith) s)

-- texts that are left out where a test fails are those of the items that pass
one_kept : {A : Type 0} (test : Bool) (text rest : List ℕ) (x : A) (f : A → List ℕ) (xs : List A) → text ≡ f x → flat_map f xs ≡ rest → cond test text [] ++ rest ≡ flat_map f (cond test (x ∷ xs) xs)
one_kept true text rest x f xs e same = ap (λ t. t ++ rest) e ∙ ap (λ t. f x ++ t) (sym same)
one_kept false text rest x f xs e same = sym same

pub kept_texts : {A : Type 0} (test : A → Bool) (f : A → List ℕ) (xs : List A) → flat_map (λ x. cond (test x) (f x) []) xs ≡ flat_map f (filter test xs)
kept_texts test f [] = refl
kept_texts test f (x ∷ xs) = one_kept (test x) (f x) (flat_map (λ y. cond (test y) (f y) []) xs) x f (filter test xs) refl (sym (kept_texts test f xs))
