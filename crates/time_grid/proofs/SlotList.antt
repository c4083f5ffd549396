-- The slots of a plant: which they are, in which order, and how many.
use Rattle.std.proofs.Common.{◌≡◌, ℕ, zero, suc, ◌+◌, ◌*◌, ◌<◌, ◌≤◌, Bool, cond, if◌then◌else◌, List, [], ◌∷◌, ◌++◌, length, get_or, map, filter, sum_by, count_by, sym, refl, ap, ◌∙◌, subst, inl, inr, ap₂, arith, one-mul, mul_assoc, mul-one, add-one, append-nil}
use Rattle.std.specs.List.{All, AllPairs, Contains, flat_map, range_with_len}
use Rattle.std.proofs.lemmas.List.{length-map, map-append}
use Rattle.std.proofs.lemmas.List.Elements.{All-map, All-filter, filter-append, filter_passes}
use Rattle.std.proofs.lemmas.List.Kept.{AllPairs-filter}
use Rattle.std.proofs.lemmas.List.Concat.{length-flat_map, flat_map-append}
use Rattle.std.proofs.lemmas.List.Sums.{sum_by-cons, sum_by-append, sum_by_push, length-filter}
use Rattle.std.proofs.lemmas.Bool.{cases_Bool, cond-true, cond-false}
use Rattle.stn_model.specs.declared.plant.Plant.{Plant}
use Rattle.stn_model.specs.declared.plant.Run.{Run}
use Rattle.stn_model.specs.Sums.{sum_below, count_below, product_by, product_below}
use Rattle.stn_model.specs.Sound.{Sound}
use Rattle.stn_model.specs.Points.{has_slot, choices, points, slots_of, slot_count}
use Rattle.stn_model.specs.Plant.{no_run, run_at}
use Rattle.time_grid.specs.Slots.{run_slots, slots_before, slots, IsGrid, slot_choices, IsSlotOf, Earlier}
use Rattle.time_grid.proofs.Lists.{map-range_get_or, All-below, range-more, All-flat_map, Contains-map, Contains-filter, Contains-range, Contains-flat_map, AllPairs-map, AllPairs-range, AllPairs-flat_map}

run_slots-are : (plant : Plant) (run : ℕ) → run < length plant.runs → All (IsSlotOf plant) (run_slots plant run)
unfolding slots_before
run_slots-are plant run l =
    let p = has_slot plant (run_at plant run) in
    let range = range_with_len 0 plant.periods in
    All-map (IsSlotOf plant) (λ period. (run, period)) (filter p range)
    (λ k d m. record {
      run = l;
      period = All-filter p (λ j. j < plant.periods) range (All-below plant.periods) k d m;
      has = filter_passes p range k d m;
    })

-- each of the slots is one
pub slots-are : (plant : Plant) → All (IsSlotOf plant) (slots plant)
unfolding slots
slots-are plant =
    All-flat_map (IsSlotOf plant) (run_slots plant) (range_with_len 0 (length plant.runs))
    (λ k d m. run_slots-are plant (get_or (range_with_len 0 (length plant.runs)) k d) (All-below (length plant.runs) k d m))

-- a slot of the plant's grid is one
pub grid-are : (plant : Plant) (grid : List (ℕ × ℕ)) (place : ℕ) (slot : ℕ × ℕ) → IsGrid plant grid → place < length grid → slot ≡ get_or grid place slot → IsSlotOf plant slot
grid-are plant grid place slot e l is =
    let at : slot ≡ get_or (slots plant) place slot = is ∙ ap (λ g. get_or g place slot) e in
    let within : place < length (slots plant) = omega (arith, l, ap length e) in
    subst (IsSlotOf plant) (sym at) (slots-are plant place slot within)

-- every slot is among them
pub Contains-slots : (plant : Plant) (slot : ℕ × ℕ) → IsSlotOf plant slot → Contains (slots plant) slot
unfolding slots slots_before
Contains-slots plant slot is =
    Contains-flat_map (run_slots plant) (range_with_len 0 (length plant.runs)) slot.0 slot
    (Contains-range 0 (length plant.runs) slot.0 (omega arith) (omega (arith, is.run)))
    (Contains-map (λ period. (slot.0, period)) (filter (has_slot plant (run_at plant slot.0)) (range_with_len 0 plant.periods)) slot.1
    (Contains-filter (has_slot plant (run_at plant slot.0)) (range_with_len 0 plant.periods) slot.1 is.has
    (Contains-range 0 plant.periods slot.1 (omega arith) (omega (arith, is.period)))))

-- the slots stand by run, then by period
pub slots-rise : (plant : Plant) → AllPairs Earlier (slots plant)
unfolding slots slots_before
slots-rise plant =
    AllPairs-flat_map (λ a b. a < b) Earlier (run_slots plant)
    (λ run. AllPairs-map Earlier (λ period. (run, period)) (filter (has_slot plant (run_at plant run)) (range_with_len 0 plant.periods))
    (λ i j d l m. inr (refl, AllPairs-filter (λ a b. a < b) (has_slot plant (run_at plant run)) (range_with_len 0 plant.periods) (AllPairs-range 0 plant.periods) i j d l m)))
    (λ a b l. All-map (λ slot. All (Earlier slot) (run_slots plant b)) (λ period. (a, period)) (filter (has_slot plant (run_at plant a)) (range_with_len 0 plant.periods))
    (λ k d m. All-map (Earlier (a, get_or (filter (has_slot plant (run_at plant a)) (range_with_len 0 plant.periods)) k d)) (λ period. (b, period)) (filter (has_slot plant (run_at plant b)) (range_with_len 0 plant.periods))
    (λ j e n. inl l)))
    (range_with_len 0 (length plant.runs)) (AllPairs-range 0 (length plant.runs))

pub sum_by-map : {X Y : Type 0} (f : Y → ℕ) (g : X → Y) (xs : List X) → sum_by f (map g xs) ≡ sum_by (λ x. f (g x)) xs
sum_by-map f g [] = refl
sum_by-map f g (x ∷ xs) = simp sum_by-cons (ap (λ n. f (g x) + n) (sum_by-map f g xs))

pub sum_by-same : {X : Type 0} (f g : X → ℕ) → ((x : X) → f x ≡ g x) → (xs : List X) → sum_by f xs ≡ sum_by g xs
sum_by-same f g e [] = refl
sum_by-same f g e (x ∷ xs) = simp sum_by-cons (omega (arith, e x, sum_by-same f g e xs))

count-below : (p : ℕ → Bool) (n : ℕ) → count_by p (range_with_len 0 n) ≡ count_below p n
count-below p zero = refl
count-below p (suc n) =
    ap (count_by p) (range-more n) ∙ sum_by_push (λ x. cond (p x) 1 0) (range_with_len 0 n) n
    ∙ ap (λ k. k + cond (p n) 1 0) (count-below p n)

length-run_slots : (plant : Plant) (run : ℕ) → length (run_slots plant run) ≡ slots_of plant (run_at plant run)
unfolding slots_before slots_of
length-run_slots plant run =
    let p = has_slot plant (run_at plant run) in
    let range = range_with_len 0 plant.periods in
    length-map (filter p range) (λ period. (run, period)) ∙ length-filter p range ∙ count-below p plant.periods

-- how many slots there are
pub length-slots : (plant : Plant) → length (slots plant) ≡ slot_count plant
unfolding slots slot_count
length-slots plant =
    let range = range_with_len 0 (length plant.runs) in
    length-flat_map (run_slots plant) range
    ∙ sum_by-same (λ run. length (run_slots plant run)) (λ run. slots_of plant (run_at plant run)) (length-run_slots plant) range
    ∙ sym (sum_by-map (slots_of plant) (run_at plant) range)
    ∙ ap (sum_by (slots_of plant)) (map-range_get_or plant.runs no_run)

-- a sound plant has few slots
pub few-slots : (plant : Plant) → Sound plant → length (slots plant) ≤ 4096
few-slots plant sound = omega (arith, length-slots plant, sound.counts.slots)

pub product_by-append : {X : Type 0} (f : X → ℕ) (xs ys : List X) → product_by f (xs ++ ys) ≡ product_by f xs * product_by f ys
product_by-append f [] ys = sym (one-mul (product_by f ys))
product_by-append f (x ∷ xs) ys = ap (λ n. f x * n) (product_by-append f xs ys) ∙ sym (mul_assoc (f x) (product_by f xs) (product_by f ys))

product_by-flat_map : {X Y : Type 0} (f : Y → ℕ) (g : X → List Y) (xs : List X) → product_by f (flat_map g xs) ≡ product_by (λ x. product_by f (g x)) xs
product_by-flat_map f g [] = refl
product_by-flat_map f g (x ∷ xs) = product_by-append f (g x) (flat_map g xs) ∙ ap (λ n. product_by f (g x) * n) (product_by-flat_map f g xs)

product_by-map : {X Y : Type 0} (f : Y → ℕ) (g : X → Y) (xs : List X) → product_by f (map g xs) ≡ product_by (λ x. f (g x)) xs
product_by-map f g [] = refl
product_by-map f g (x ∷ xs) = ap (λ n. f (g x) * n) (product_by-map f g xs)

product_by-same : {X : Type 0} (f g : X → ℕ) → ((x : X) → f x ≡ g x) → (xs : List X) → product_by f xs ≡ product_by g xs
product_by-same f g e [] = refl
product_by-same f g e (x ∷ xs) = ap₂ (λ m n. m * n) (e x) (product_by-same f g e xs)

-- a product over those that pass is one of a function that is 1 at the others
product_by-filter : {X : Type 0} (p : X → Bool) (f : X → ℕ) (xs : List X) → product_by f (filter p xs) ≡ product_by (λ x. if p x then f x else 1) xs
product_by-filter p f [] = refl
product_by-filter p f (x ∷ xs) =
    elim (cases_Bool (p x)) [
      | inl t ↦ rw t (ap (λ n. f x * n) (product_by-filter p f xs))
      | inr t ↦ rw t (product_by-filter p f xs ∙ sym (one-mul (product_by (λ x. if p x then f x else 1) xs)))
    ]

product-below : (f : ℕ → ℕ) (n : ℕ) → product_by f (range_with_len 0 n) ≡ product_below f n
product-below f zero = refl
product-below f (suc n) =
    ap (product_by f) (range-more n) ∙ product_by-append f (range_with_len 0 n) (n ∷ [])
    ∙ ap₂ (λ a b. a * b) (product-below f n) (mul-one (f n))

product-run_slots : (plant : Plant) (run : ℕ) → product_by (slot_choices plant) (run_slots plant run) ≡ product_below (choices plant (run_at plant run)) plant.periods
unfolding slots_before choices
product-run_slots plant run =
    let p = has_slot plant (run_at plant run) in
    let range = range_with_len 0 plant.periods in
    product_by-map (slot_choices plant) (λ period. (run, period)) (filter p range)
    ∙ product_by-filter p (λ period. slot_choices plant (run, period)) range
    ∙ product-below (choices plant (run_at plant run)) plant.periods

-- how many points there are: the product of the slots' choices
pub product-slots : (plant : Plant) → product_by (slot_choices plant) (slots plant) ≡ points plant
unfolding slots points
product-slots plant =
    let range = range_with_len 0 (length plant.runs) in
    let each : Run → ℕ = λ run. product_below (choices plant run) plant.periods in
    product_by-flat_map (slot_choices plant) (run_slots plant) range
    ∙ product_by-same (λ run. product_by (slot_choices plant) (run_slots plant run)) (λ run. each (run_at plant run)) (product-run_slots plant) range
    ∙ sym (product_by-map each (run_at plant) range)
    ∙ ap (product_by each) (map-range_get_or plant.runs no_run)

-- the slots of a run, with one more period
pub slots_before-more : (plant : Plant) (run n : ℕ) → slots_before plant run (n + 1) ≡ slots_before plant run n ++ (if has_slot plant (run_at plant run) n then (run, n) ∷ [] else [])
unfolding slots_before
slots_before-more plant run n =
    let p = has_slot plant (run_at plant run) in
    let slot : ℕ → ℕ × ℕ = λ period. (run, period) in
    let step : filter p (range_with_len 0 (suc n)) ≡ filter p (range_with_len 0 n) ++ filter p (n ∷ []) =
    ap (filter p) (range-more n) ∙ filter-append p (range_with_len 0 n) (n ∷ []) in
    rw add-one (ap (map slot) step ∙ map-append slot (filter p (range_with_len 0 n)) (filter p (n ∷ []))
    ∙ elim (cases_Bool (p n)) [ inl t ↦ rw t | inr t ↦ rw t ])

-- the slots of the first runs, with one more run
pub runs_before-more : (plant : Plant) (n : ℕ) → flat_map (run_slots plant) (range_with_len 0 (n + 1)) ≡ flat_map (run_slots plant) (range_with_len 0 n) ++ run_slots plant n
runs_before-more plant n =
    rw add-one (ap (flat_map (run_slots plant)) (range-more n) ∙ flat_map-append (run_slots plant) (range_with_len 0 n) (n ∷ [])
    ∙ ap (λ xs. flat_map (run_slots plant) (range_with_len 0 n) ++ xs) (append-nil (run_slots plant n)))

sum_by-flat_map : {X Y : Type 0} (f : Y → ℕ) (g : X → List Y) (xs : List X) → sum_by f (flat_map g xs) ≡ sum_by (λ x. sum_by f (g x)) xs
sum_by-flat_map f g [] = refl
sum_by-flat_map f g (x ∷ xs) = simp (sum_by-append, sum_by-cons) (ap (λ n. sum_by f (g x) + n) (sum_by-flat_map f g xs))

-- a sum over those that pass is one of a function that is 0 at the others
pub sum_by-filter : {X : Type 0} (p : X → Bool) (f : X → ℕ) (xs : List X) → sum_by f (filter p xs) ≡ sum_by (λ x. if p x then f x else 0) xs
sum_by-filter p f [] = refl
sum_by-filter p f (x ∷ xs) =
    let more = sum_by-cons (λ y. if p y then f y else 0) x xs in
    let ih = sum_by-filter p f xs in
    elim (cases_Bool (p x)) [
      | inl t ↦
          let here = cond-true {A = ℕ} (p x) (f x) 0 t in
          let kept = ap (sum_by f) (cond-true (p x) (x ∷ filter p xs) (filter p xs) t) in
          kept ∙ (let own = sum_by-cons f x (filter p xs) in omega (arith, here, more, ih, own))
      | inr t ↦
          let here = cond-false {A = ℕ} (p x) (f x) 0 t in
          ap (sum_by f) (cond-false (p x) (x ∷ filter p xs) (filter p xs) t) ∙ (omega (arith, here, more, ih))
    ]

sum-below : (f : ℕ → ℕ) (n : ℕ) → sum_by f (range_with_len 0 n) ≡ sum_below f n
sum-below f zero = refl
sum-below f (suc n) = ap (sum_by f) (range-more n) ∙ sum_by_push f (range_with_len 0 n) n ∙ ap (λ k. k + f n) (sum-below f n)

-- a sum over the slots, run by run and period by period
pub sum-slots : (plant : Plant) (f : Run → ℕ → ℕ) →
    sum_by (λ slot. f (run_at plant slot.0) slot.1) (slots plant) ≡ sum_by (λ run. sum_below (λ period. if has_slot plant run period then f run period else 0) plant.periods) plant.runs
unfolding slots slots_before
sum-slots plant f =
    let range = range_with_len 0 (length plant.runs) in
    let at : ℕ × ℕ → ℕ = λ slot. f (run_at plant slot.0) slot.1 in
    let each : Run → ℕ = λ run. sum_below (λ period. if has_slot plant run period then f run period else 0) plant.periods in
    let one : (run : ℕ) → sum_by at (run_slots plant run) ≡ each (run_at plant run) =
    λ run. let p = has_slot plant (run_at plant run) in
    sum_by-map at (λ period. (run, period)) (filter p (range_with_len 0 plant.periods))
    ∙ sum_by-filter p (λ period. f (run_at plant run) period) (range_with_len 0 plant.periods)
    ∙ sum-below (λ period. if p period then f (run_at plant run) period else 0) plant.periods in
    sum_by-flat_map at (run_slots plant) range
    ∙ sum_by-same (λ run. sum_by at (run_slots plant run)) (λ run. each (run_at plant run)) one range
    ∙ sym (sum_by-map each (run_at plant) range)
    ∙ ap (sum_by each) (map-range_get_or plant.runs no_run)
