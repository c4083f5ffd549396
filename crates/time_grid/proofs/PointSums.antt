-- Sums over the slots of a plan's point are sums over the plan's starts.
use Rattle.std.proofs.Common.{◌≡◌, ℕ, ◌==◌, if◌then◌else◌, List, [], ◌∷◌, map, sum_by, ℤ, pos, ◌+ℤ◌, ◌-ℤ◌, sym, refl, ap, ap₂, ◌∙◌, arith, inl, inr}
use Rattle.std.specs.List.{All}
use Rattle.std.proofs.lemmas.Int.{ints}
use Rattle.std.proofs.lemmas.List.Elements.{All-head, All-tail}
use Rattle.std.proofs.lemmas.List.Sums.{sum_by-cons}
use Rattle.std.proofs.lemmas.Bool.{eq-eqb, ne_eqb, cases_eq}
use Rattle.stn_model.specs.declared.plant.Plant.{Plant}
use Rattle.stn_model.specs.declared.start.Start.{Start}
use Rattle.stn_model.specs.Sound.{Sound}
use Rattle.stn_model.specs.Sums.{total}
use Rattle.time_grid.specs.Slots.{slots}
use Rattle.time_grid.specs.PlanPoint.{HasPoint, plan_point, point_starts, start_in}
use Rattle.time_grid.proofs.OnePlan.{starts-permutation}
use Rattle.time_grid.proofs.Reordered.{total-permutation}

-- the sum of f over the items of two lists, place by place, as far as both go
abbrev pub total_zip : {X Y : Type 0} → (X → Y → ℤ) → List X → List Y → ℤ
total_zip f [] ys = pos 0
total_zip f (x ∷ xs) [] = pos 0
total_zip f (x ∷ xs) (y ∷ ys) = f x y +ℤ total_zip f xs ys

-- what a slot counts at a value: nothing at 0, and else what its start of that size counts
abbrev pub counted_at : Plant → (Start → ℤ) → ℕ × ℕ → ℕ → ℤ
counted_at plant g slot value = if value == 0 then pos 0 else g (start_in plant slot value)

-- what two functions agree on at each item of the first list
pub total_zip-agree : {X Y : Type 0} (f g : X → Y → ℤ) (xs : List X) (ys : List Y) → All (λ x. (y : Y) → f x y ≡ g x y) xs → total_zip f xs ys ≡ total_zip g xs ys
total_zip-agree f g [] ys h = refl
total_zip-agree f g (x ∷ xs) [] h = refl
total_zip-agree {X} {Y} f g (x ∷ xs) (y ∷ ys) h =
    ap₂ (λ a b. a +ℤ b) (All-head (λ z. (v : Y) → f z v ≡ g z v) x xs h y) (total_zip-agree f g xs ys (All-tail (λ z. (v : Y) → f z v ≡ g z v) x xs h))

-- any sum place by place, by its steps
pub total_zip-is : {X Y : Type 0} (f : X → Y → ℤ) (by : List X → List Y → ℤ) →
    ((ys : List Y) → by [] ys ≡ pos 0) → ((x : X) (xs : List X) → by (x ∷ xs) [] ≡ pos 0) →
    ((x : X) (xs : List X) (y : Y) (ys : List Y) → by (x ∷ xs) (y ∷ ys) ≡ f x y +ℤ by xs ys) →
    (xs : List X) (ys : List Y) → by xs ys ≡ total_zip f xs ys
total_zip-is f by none left step [] ys = none ys
total_zip-is f by none left step (x ∷ xs) [] = left x xs
total_zip-is f by none left step (x ∷ xs) (y ∷ ys) = step x xs y ys ∙ ap (λ n. f x y +ℤ n) (total_zip-is f by none left step xs ys)

-- a list beside what a function makes of it
pub total_zip-map : {X Y : Type 0} (f : X → Y → ℤ) (g : X → Y) (xs : List X) → total_zip f xs (map g xs) ≡ total (λ x. f x (g x)) xs
total_zip-map f g [] = refl
total_zip-map f g (x ∷ xs) = ap (λ n. f x (g x) +ℤ n) (total_zip-map f g xs)

-- a sum of numbers that are not negative
pub total-pos : {X : Type 0} (f : X → ℕ) (xs : List X) → total (λ x. pos (f x)) xs ≡ pos (sum_by f xs)
total-pos f [] = refl
total-pos f (x ∷ xs) = let e = sum_by-cons f x xs in let ih = total-pos f xs in omega (arith, ints, e, ih)

-- a sum of differences of such numbers
pub total-minus : {X : Type 0} (f g : X → ℕ) (xs : List X) → total (λ x. pos (f x) -ℤ pos (g x)) xs ≡ pos (sum_by f xs) -ℤ pos (sum_by g xs)
total-minus f g [] = refl
total-minus f g (x ∷ xs) =
    let a = sum_by-cons f x xs in
    let b = sum_by-cons g x xs in
    let ih = total-minus f g xs in
    omega (arith, ints, a, b, ih)

-- the sum over the starts of a point, slot by slot
pub total-point_starts : (plant : Plant) (g : Start → ℤ) (grid : List (ℕ × ℕ)) (values : List ℕ) → total g (point_starts plant grid values) ≡ total_zip (counted_at plant g) grid values
total-point_starts plant g [] values = refl
total-point_starts plant g (slot ∷ grid) [] = refl
total-point_starts plant g (slot ∷ grid) (value ∷ values) =
    let ih = total-point_starts plant g grid values in
    elim (cases_eq value 0) [
      | inl e ↦ rw (eq-eqb value 0 e) (let h : total g (point_starts plant grid values) ≡ total_zip (counted_at plant g) grid values = ih in omega (arith, ints, h))
      | inr e ↦ rw (ne_eqb value 0 e) (ap (λ n. g (start_in plant slot value) +ℤ n) ih)
    ]

-- the sum over the slots of what their starts count at the plan's point is the sum over the plan's starts
pub total-plan_point : (plant : Plant) (g : Start → ℤ) (plan : List Start) → Sound plant → HasPoint plant plan →
    total_zip (counted_at plant g) (slots plant) (plan_point plant plan) ≡ total g plan
total-plan_point plant g plan sound has =
    sym (total-point_starts plant g (slots plant) (plan_point plant plan))
    ∙ total-permutation g plan (point_starts plant (slots plant) (plan_point plant plan)) (starts-permutation plant plan sound has)

-- the same of numbers that are not negative
pub sum-plan_point : (plant : Plant) (g : Start → ℕ) (plan : List Start) → Sound plant → HasPoint plant plan →
    total_zip (counted_at plant (λ start. pos (g start))) (slots plant) (plan_point plant plan) ≡ pos (sum_by g plan)
sum-plan_point plant g plan sound has = total-plan_point plant (λ start. pos (g start)) plan sound has ∙ total-pos g plan
