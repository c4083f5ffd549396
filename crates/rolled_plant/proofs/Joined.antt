-- Facts of all starts, and of all pairs of them, over the starts before and those of a plan behind them.
use Rattle.std.proofs.Common.{◌≡◌, ℕ, zero, suc, ◌+◌, ◌-◌, ◌<◌, Bool, true, false, cond, List, [], ◌∷◌, ◌++◌, length, get_or, map, refl, sym, ap, ◌∙◌, subst, inl, inr, arith, Option, Some, None, sum_by}
use Rattle.std.specs.Prelude.{All, AllPairs, find, ◌&&◌}
use Rattle.std.specs.List.{list_all}
use Rattle.std.proofs.lemmas.Bool.{cases_Bool, cases_lt, cond-true, cond-false, and_cases, true≢false, false_from_ne_true}
use Rattle.std.proofs.lemmas.Option.{same_Some, none-some}
use Rattle.std.proofs.lemmas.List.{length-append, length-map, get_or_append_left, get_or-append-add, get_or-map, get_or_default}
use Rattle.std.proofs.lemmas.List.Folds.{list_all-append, list_all-map}
use Rattle.std.proofs.lemmas.List.Sums.{sum_by-cons, list_all-from_AllPass}
use Rattle.rolled_plant.proofs.Basics.{sum_by-none}

-- ---- of each

pub All-left : {X : Type 0} (P : X → Type 0) (xs ys : List X) → All P (xs ++ ys) → All P xs
All-left P xs ys all k d l = subst P (get_or_append_left xs ys d k l) (all k d (omega (arith, l, length-append xs ys)))

pub All-right : {X : Type 0} (P : X → Type 0) (xs ys : List X) → All P (xs ++ ys) → All P ys
All-right P xs ys all k d l = subst P (get_or-append-add xs ys k d) (all (length xs + k) d (omega (arith, l, length-append xs ys)))

pub All-of_map : {X Y : Type 0} (P : Y → Type 0) (f : X → Y) (xs : List X) → All P (map f xs) → All (λ x. P (f x)) xs
All-of_map P f xs all k d l = subst P (get_or-map f xs k d (f d) l) (all k (f d) (omega (arith, l, length-map xs f)))

-- ---- of pairs

pub pairs_left : {X : Type 0} (R : X → X → Type 0) (xs ys : List X) → AllPairs R (xs ++ ys) → AllPairs R xs
pairs_left {X = X} R xs ys all i j d less within =
    subst (λ (a : X). R a (get_or xs j d)) (get_or_append_left xs ys d i (omega arith))
    (subst (R (get_or (xs ++ ys) i d)) (get_or_append_left xs ys d j within) (all i j d less (omega (arith, within, length-append xs ys))))

pub pairs_right : {X : Type 0} (R : X → X → Type 0) (xs ys : List X) → AllPairs R (xs ++ ys) → AllPairs R ys
pairs_right {X = X} R xs ys all i j d less within =
    subst (λ (a : X). R a (get_or ys j d)) (get_or-append-add xs ys i d)
    (subst (R (get_or (xs ++ ys) (length xs + i) d)) (get_or-append-add xs ys j d)
    (all (length xs + i) (length xs + j) d (omega arith) (omega (arith, within, length-append xs ys))))

pub pairs_across : {X : Type 0} (R : X → X → Type 0) (xs ys : List X) → AllPairs R (xs ++ ys) → All (λ x. All (R x) ys) xs
pairs_across {X = X} R xs ys all i d within j e inside =
    subst (λ (a : X). R a (get_or ys j e)) (get_or_append_left xs ys e i within ∙ default)
    (subst (R (get_or (xs ++ ys) i e)) (get_or-append-add xs ys j e)
    (all i (length xs + j) e (omega arith) (omega (arith, inside, length-append xs ys))))
  where
    default : get_or xs i e ≡ get_or xs i d
    default = get_or_default xs i e d within

pub pairs_joined : {X : Type 0} (R : X → X → Type 0) (xs ys : List X) → AllPairs R xs → AllPairs R ys → All (λ x. All (R x) ys) xs → AllPairs R (xs ++ ys)
pairs_joined {X = X} R xs ys left right across i j d less within =
    elim (cases_lt j (length xs)) [
      | inl l ↦
          subst (λ (a : X). R a (get_or (xs ++ ys) j d)) (sym (get_or_append_left xs ys d i (omega arith)))
          (subst (R (get_or xs i d)) (sym (get_or_append_left xs ys d j l)) (left i j d less l))
      | inr l ↦
          let second : length xs + (j - length xs) ≡ j = omega arith in
          let inside : j - length xs < length ys = omega (arith, within, l, length-append xs ys) in
          let last : get_or ys (j - length xs) d ≡ get_or (xs ++ ys) j d = sym (get_or-append-add xs ys (j - length xs) d) ∙ ap (λ n. get_or (xs ++ ys) n d) second in
          elim (cases_lt i (length xs)) [
            | inl m ↦
                subst (λ (a : X). R a (get_or (xs ++ ys) j d)) (sym (get_or_append_left xs ys d i m))
                (subst (R (get_or xs i d)) last (across i d m (j - length xs) d inside))
            | inr m ↦
                let first : length xs + (i - length xs) ≡ i = omega arith in
                let one : get_or ys (i - length xs) d ≡ get_or (xs ++ ys) i d = sym (get_or-append-add xs ys (i - length xs) d) ∙ ap (λ n. get_or (xs ++ ys) n d) first in
                subst (λ (a : X). R a (get_or (xs ++ ys) j d)) one
                (subst (R (get_or ys (i - length xs) d)) last (right (i - length xs) (j - length xs) d (omega arith) inside))
          ]
    ]

pair_at : {X Y : Type 0} (R : Y → Y → Type 0) (f : X → Y) (xs : List X) → AllPairs (λ a b. R (f a) (f b)) xs → (i j : ℕ) (c : X) (d : Y) → i < j → j < length xs → R (get_or (map f xs) i d) (get_or (map f xs) j d)
pair_at {Y = Y} R f xs all i j c d less within =
    subst (λ (a : Y). R a (get_or (map f xs) j d)) (sym (get_or-map f xs i c d (omega arith)))
    (subst (R (f (get_or xs i c))) (sym (get_or-map f xs j c d within)) (all i j c less within))

pub pairs_map : {X Y : Type 0} (R : Y → Y → Type 0) (f : X → Y) (xs : List X) → AllPairs (λ a b. R (f a) (f b)) xs → AllPairs R (map f xs)
pairs_map R f [] all i j d less within = absurd (omega arith)
pairs_map R f (x ∷ xs) all i j d less within = pair_at R f (x ∷ xs) all i j x d less (omega (arith, within, length-map (x ∷ xs) f))

pub pairs_of_map : {X Y : Type 0} (R : Y → Y → Type 0) (f : X → Y) (xs : List X) → AllPairs R (map f xs) → AllPairs (λ a b. R (f a) (f b)) xs
pairs_of_map {X = X} {Y = Y} R f xs all i j d less within =
    subst (λ (a : Y). R a (f (get_or xs j d))) (get_or-map f xs i d (f d) (omega arith))
    (subst (R (get_or (map f xs) i (f d))) (get_or-map f xs j d (f d) within) (all i j (f d) less (omega (arith, within, length-map xs f))))

-- ---- of tests

pub list_all-same : {X : Type 0} (p q : X → Bool) (xs : List X) → All (λ x. p x ≡ q x) xs → list_all p xs ≡ list_all q xs
list_all-same p q [] same = refl
list_all-same p q (x ∷ xs) same =
    ap (λ (b : Bool). b && list_all p xs) (same 0 x (omega arith))
    ∙ ap (λ (b : Bool). q x && b) (list_all-same p q xs (λ k d l. same (suc k) d (omega arith)))

pub list_all-every : {X : Type 0} (p : X → Bool) (xs : List X) → ((x : X) → p x ≡ true) → list_all p xs ≡ true
list_all-every p xs every = list_all-from_AllPass p xs (λ k d l. every (get_or xs k d))

-- a test of two lists, the second of which is mapped
pub list_all-joined : {X : Type 0} (p q r : X → Bool) (f : X → X) (xs ys : List X) → All (λ x. p x ≡ q x) xs → ((y : X) → p (f y) ≡ r y) → list_all p (xs ++ map f ys) ≡ (list_all q xs && list_all r ys)
list_all-joined p q r f xs ys left right =
    list_all-append p xs (map f ys)
    ∙ ap (λ (b : Bool). b && list_all p (map f ys)) (list_all-same p q xs left)
    ∙ ap (λ (b : Bool). list_all q xs && b) (list_all-map p f ys ∙ list_all-same (λ y. p (f y)) r ys (λ k d l. right (get_or ys k d)))

pub and-true : (b : Bool) → (b && true) ≡ b
and-true true = refl
and-true false = refl

-- and where all of the second pass
pub list_all-first : {X : Type 0} (p : X → Bool) (f : X → X) (xs ys : List X) → ((y : X) → p (f y) ≡ true) → list_all p (xs ++ map f ys) ≡ list_all p xs
list_all-first p f xs ys right =
    list_all-joined p p (λ y. true) f xs ys (λ k d l. refl) right
    ∙ ap (λ (b : Bool). list_all p xs && b) (list_all-every (λ y. true) ys (λ y. refl))
    ∙ and-true (list_all p xs)

-- and where all of the first do
pub list_all-second : {X : Type 0} (p r : X → Bool) (f : X → X) (xs ys : List X) → All (λ x. p x ≡ true) xs → ((y : X) → p (f y) ≡ r y) → list_all p (xs ++ map f ys) ≡ list_all r ys
list_all-second p r f xs ys left right =
    list_all-joined p p r f xs ys (λ k d l. refl) right
    ∙ ap (λ (b : Bool). b && list_all r ys) (list_all-from_AllPass p xs left)

-- an item fails where not all pass
pub one_fails : {X : Type 0} (p : X → Bool) (xs : List X) (d : X) → list_all p xs ≡ false → (k : ℕ) × (k < length xs) × (p (get_or xs k d) ≡ false)
one_fails p [] d none = absurd (true≢false none)
one_fails p (x ∷ xs) d none =
    elim (and_cases (p x) (list_all p xs) none) [
      | inl f ↦ (0, omega arith, f)
      | inr f ↦ let next = one_fails p xs d f in (suc next.0, omega (arith, next.1), next.2)
    ]

-- ---- the one item that passes

-- where no two pass, each one that passes is the one that is found
pub found_only : {X : Type 0} (p : X → Bool) (xs : List X) → AllPairs (λ a b. p a ≡ true → p b ≡ true → ⊥) xs → All (λ x. p x ≡ true → find p xs ≡ Some x) xs
found_only p [] one k d l passes = absurd (omega arith)
found_only p (x ∷ xs) one zero d l passes = cond-true (p x) (Some x) (find p xs) passes
found_only p (x ∷ xs) one (suc k) d l passes =
    elim (cases_Bool (p x)) [
      | inl t ↦ absurd (one 0 (suc k) d (omega arith) l t passes)
      | inr f ↦ cond-false (p x) (Some x) (find p xs) f ∙ found_only p xs (λ i j e less within. one (suc i) (suc j) e (omega arith) (omega arith)) k d (omega arith) passes
    ]

-- what is found is among the items, and passes
pub found_at : {X : Type 0} (p : X → Bool) (xs : List X) (x : X) → find p xs ≡ Some x → (k : ℕ) × (k < length xs) × (get_or xs k x ≡ x) × (p x ≡ true)
found_at p [] x found = absurd (none-some x found)
found_at {X = X} p (y ∷ ys) x found =
    elim (cases_Bool (p y)) [
      | inl t ↦
          let same : y ≡ x = same_Some y x (sym (cond-true (p y) (Some y) (find p ys) t) ∙ found) in
          (0, omega arith, same, subst (λ (z : X). p z ≡ true) same t)
      | inr f ↦
          let next = found_at p ys x (sym (cond-false (p y) (Some y) (find p ys) f) ∙ found) in
          (suc next.0, omega (arith, next.1), next.2, next.3)
    ]

-- where none is found, none passes
pub none_passes : {X : Type 0} (p : X → Bool) (xs : List X) → find p xs ≡ None → All (λ x. p x ≡ false) xs
none_passes p [] none k d l = absurd (omega arith)
none_passes p (x ∷ xs) none zero d l =
    elim (cases_Bool (p x)) [
      | inl t ↦ absurd (none-some x (sym none ∙ cond-true (p x) (Some x) (find p xs) t))
      | inr f ↦ f
    ]
none_passes p (x ∷ xs) none (suc k) d l =
    elim (cases_Bool (p x)) [
      | inl t ↦ absurd (none-some x (sym none ∙ cond-true (p x) (Some x) (find p xs) t))
      | inr f ↦ none_passes p xs (sym (cond-false (p x) (Some x) (find p xs) f) ∙ none) k d (omega arith)
    ]

-- a number of what may be there, 0 where it is not
abbrev pub number_of : {X : Type 0} → (X → ℕ) → Option X → ℕ
number_of f None = 0
number_of f (Some x) = f x

-- a sum over the items that pass, where no two do
pub sum_only : {X : Type 0} (p : X → Bool) (f : X → ℕ) (xs : List X) → AllPairs (λ a b. p a ≡ true → p b ≡ true → ⊥) xs → sum_by (λ x. cond (p x) (f x) 0) xs ≡ number_of f (find p xs)
sum_only p f [] one = refl
sum_only {X = X} p f (x ∷ xs) one =
    let more = sum_by-cons (λ y. cond (p y) (f y) 0) x xs in
    elim (cases_Bool (p x)) [
      | inl t ↦
          let here = cond-true {A = ℕ} (p x) (f x) 0 t in
          let rest = sum_by-none (λ y. cond (p y) (f y) 0) xs (λ k d l. others k d l t) in
          let whole : sum_by (λ y. cond (p y) (f y) 0) (x ∷ xs) ≡ f x = omega (arith, more, here, rest) in
          whole ∙ sym (ap (number_of f) (cond-true (p x) (Some x) (find p xs) t))
      | inr f2 ↦
          let here = cond-false {A = ℕ} (p x) (f x) 0 f2 in
          let rest = sum_only p f xs (λ i j e less within. one (suc i) (suc j) e (omega arith) (omega arith)) in
          let whole : sum_by (λ y. cond (p y) (f y) 0) (x ∷ xs) ≡ number_of f (find p xs) = omega (arith, more, here, rest) in
          whole ∙ sym (ap (number_of f) (cond-false (p x) (Some x) (find p xs) f2))
    ]
  where
    others : (k : ℕ) (d : X) → k < length xs → p x ≡ true → cond (p (get_or xs k d)) (f (get_or xs k d)) 0 ≡ 0
    others k d l t = cond-false {A = ℕ} (p (get_or xs k d)) (f (get_or xs k d)) 0 (false_from_ne_true (p (get_or xs k d)) (λ passes. one 0 (suc k) d (omega arith) (omega arith) t passes))
