-- Sums over slots, each counted as often as a list has it, are sums over the list.
use Rattle.std.proofs.Common.{◌≡◌, ℕ, ◌+◌, ◌≤◌, Bool, true, false, cond, List, [], ◌∷◌, map, count_by, refl, sym, ap, ap₂, ◌∙◌, arith, inl, inr, ℤ, pos, ◌+ℤ◌}
use Rattle.std.specs.List.{All}
use Rattle.std.proofs.lemmas.Bool.{and_parts, cases_Bool, cond-true, cond-false, eqb-true, false≢true}
use Rattle.std.proofs.lemmas.Int.{ints}
use Rattle.std.proofs.lemmas.List.Elements.{All-head, All-tail}
use Rattle.std.proofs.lemmas.List.Sums.{sum_by-cons}
use Rattle.stn_model.specs.Sums.{total}
use Rattle.row_kit.specs.Row.{part_at, parts_sum}
use Rattle.setup_slots.specs.declared.setup.SetupSlot.{SetupSlot}
use Rattle.setup_slots.specs.declared.setup.SetupSlot.TheVariants.{First, Change}
use Rattle.setup_slots.specs.Image.{is_same}
use Rattle.setup_slots.specs.Rows.{fixed_part}

-- one item more is counted where it passes
pub count-cons : {X : Type 0} (p : X → Bool) (x : X) (xs : List X) → count_by p (x ∷ xs) ≡ cond (p x) 1 0 + count_by p xs
count-cons p x xs = sum_by-cons (λ y. cond (p y) 1 0) x xs

pub count-yes : {X : Type 0} (p : X → Bool) (x : X) (xs : List X) → p x ≡ true → count_by p (x ∷ xs) ≡ 1 + count_by p xs
count-yes p x xs t = omega (arith, count-cons p x xs, cond-true {A = ℕ} (p x) 1 0 t)

pub count-no : {X : Type 0} (p : X → Bool) (x : X) (xs : List X) → p x ≡ false → count_by p (x ∷ xs) ≡ count_by p xs
count-no p x xs t = omega (arith, count-cons p x xs, cond-false {A = ℕ} (p x) 1 0 t)

-- slots that are the same are equal
pub same_is : (s e : SetupSlot) → is_same s e ≡ true → s ≡ e
same_is (First k) (First j) t = ap First (eqb-true k j t)
same_is (First k) (Change a b c) t = absurd (false≢true t)
same_is (Change a b c) (First k) t = absurd (false≢true t)
same_is (Change a b c) (Change d e f) t =
    let both = and_parts _ _ t in
    let first = and_parts _ _ both.0 in
    ap (λ x. Change x b c) (eqb-true a d first.0) ∙ ap₂ (λ y z. Change d y z) (eqb-true b e first.1) (eqb-true c f both.1)

-- the sum of sums
pub total-add : {X : Type 0} (f g : X → ℤ) (xs : List X) → total (λ x. f x +ℤ g x) xs ≡ total f xs +ℤ total g xs
total-add f g [] = refl
total-add f g (x ∷ xs) = omega (arith, ints, total-add f g xs)

pub total-nothing : {X : Type 0} (f : X → ℤ) (xs : List X) → ((x : X) → f x ≡ pos 0) → total f xs ≡ pos 0
total-nothing f [] none = refl
total-nothing f (x ∷ xs) none = omega (arith, ints, none x, total-nothing f xs none)

-- sums over two lists in either order
total-swap : {X Y : Type 0} (g : X → Y → ℤ) (xs : List X) (ys : List Y) → total (λ x. total (g x) ys) xs ≡ total (λ y. total (λ x. g x y) xs) ys
total-swap g [] ys = sym (total-nothing (λ y. pos 0) ys (λ y. refl))
total-swap g (x ∷ xs) ys = ap (λ n. total (g x) ys +ℤ n) (total-swap g xs ys) ∙ sym (total-add (g x) (λ y. total (λ z. g z y) xs) ys)

-- what a slot counts, where a list has it
abbrev pub counted_if : ℤ → Bool → ℤ
counted_if c t = cond t c (pos 0)

part_one : (c : ℤ) → part_at (fixed_part c) 1 ≡ c
part_one c = omega (arith, ints)

-- a slot that a list has once at most counts what its items count that are the same
part_is : (c : ℤ) (s : SetupSlot) (es : List SetupSlot) → count_by (is_same s) es ≤ 1 → part_at (fixed_part c) (count_by (is_same s) es) ≡ total (λ e. counted_if c (is_same s e)) es
part_is c s [] most = refl
part_is c s (e ∷ es) most =
    elim (cases_Bool (is_same s e)) [
      | inl t ↦
          let more = count-yes (is_same s) e es t in
          let none : count_by (is_same s) es ≡ 0 = omega arith in
          let one : count_by (is_same s) (e ∷ es) ≡ 1 = omega arith in
          let rest : total (λ x. counted_if c (is_same s x)) es ≡ pos 0 = sym (part_is c s es (omega arith)) ∙ ap (part_at (fixed_part c)) none in
          ap (part_at (fixed_part c)) one ∙ part_one c ∙ (let here : counted_if c (is_same s e) ≡ c = cond-true (is_same s e) c (pos 0) t in omega (arith, ints, here, rest))
      | inr t ↦
          let more = count-no (is_same s) e es t in
          let rest = part_is c s es (omega arith) in
          ap (part_at (fixed_part c)) more ∙ rest ∙ (let here : counted_if c (is_same s e) ≡ pos 0 = cond-false (is_same s e) c (pos 0) t in omega (arith, ints, here))
    ]

-- a slot that stands nowhere counts nothing, and one that stands once counts once
none_counted : (f : SetupSlot → ℤ) (e : SetupSlot) (ss : List SetupSlot) → count_by (λ s. is_same s e) ss ≡ 0 → total (λ s. counted_if (f s) (is_same s e)) ss ≡ pos 0
none_counted f e [] none = refl
none_counted f e (s ∷ ss) none =
    elim (cases_Bool (is_same s e)) [
      | inl t ↦ absurd (let more = count-yes (λ x. is_same x e) s ss t in omega arith)
      | inr t ↦
          let more = count-no (λ x. is_same x e) s ss t in
          let here : counted_if (f s) (is_same s e) ≡ pos 0 = cond-false (is_same s e) (f s) (pos 0) t in
          omega (arith, ints, here, none_counted f e ss (omega arith))
    ]

one_counted : (f : SetupSlot → ℤ) (e : SetupSlot) (ss : List SetupSlot) → count_by (λ s. is_same s e) ss ≡ 1 → total (λ s. counted_if (f s) (is_same s e)) ss ≡ f e
one_counted f e [] one = absurd (omega arith)
one_counted f e (s ∷ ss) one =
    elim (cases_Bool (is_same s e)) [
      | inl t ↦
          let more = count-yes (λ x. is_same x e) s ss t in
          let here : counted_if (f s) (is_same s e) ≡ f s = cond-true (is_same s e) (f s) (pos 0) t in
          omega (arith, ints, here, none_counted f e ss (omega arith), ap f (same_is s e t))
      | inr t ↦
          let more = count-no (λ x. is_same x e) s ss t in
          let here : counted_if (f s) (is_same s e) ≡ pos 0 = cond-false (is_same s e) (f s) (pos 0) t in
          omega (arith, ints, here, one_counted f e ss (omega arith))
    ]

-- a list beside what functions make of it
parts_sum-map : {X : Type 0} (p : X → ℤ × ℤ) (v : X → ℕ) (xs : List X) → parts_sum (map p xs) (map v xs) ≡ total (λ x. part_at (p x) (v x)) xs
parts_sum-map p v [] = refl
parts_sum-map p v (x ∷ xs) = ap (λ n. part_at (p x) (v x) +ℤ n) (parts_sum-map p v xs)

total-same : {X : Type 0} (f g : X → ℤ) (xs : List X) → ((x : X) → f x ≡ g x) → total f xs ≡ total g xs
total-same f g [] same = refl
total-same f g (x ∷ xs) same = ap₂ (λ a b. a +ℤ b) (same x) (total-same f g xs same)

total-each : {X : Type 0} (f g : X → ℤ) (xs : List X) → All (λ x. f x ≡ g x) xs → total f xs ≡ total g xs
total-each f g [] same = refl
total-each f g (x ∷ xs) same = ap₂ (λ a b. a +ℤ b) (All-head (λ y. f y ≡ g y) x xs same) (total-each f g xs (All-tail (λ y. f y ≡ g y) x xs same))

-- an item stands once among slots
abbrev pub StandsOnce : List SetupSlot → SetupSlot → Type 0
StandsOnce ss e = count_by (λ s. is_same s e) ss ≡ 1

-- slots that are each counted as often as a list has them, which is once at most, sum to what the list's items count, each of which stands once among the slots
pub exchange : (f : SetupSlot → ℤ) (ss es : List SetupSlot) → ((s : SetupSlot) → count_by (is_same s) es ≤ 1) → All (StandsOnce ss) es →
    parts_sum (map (λ s. fixed_part (f s)) ss) (map (λ s. count_by (is_same s) es) ss) ≡ total f es
exchange f ss es most once =
    parts_sum-map (λ s. fixed_part (f s)) (λ s. count_by (is_same s) es) ss
    ∙ total-same (λ s. part_at (fixed_part (f s)) (count_by (is_same s) es)) (λ s. total (λ e. counted_if (f s) (is_same s e)) es) ss (λ s. part_is (f s) s es (most s))
    ∙ total-swap (λ s e. counted_if (f s) (is_same s e)) ss es
    ∙ total-each (λ e. total (λ s. counted_if (f s) (is_same s e)) ss) f es (λ k d l. one_counted f _ ss (once k d l))
