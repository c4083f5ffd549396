-- Which slots a unit's setup has, and that it has each once.
use Rattle.std.proofs.Common.{◌≡◌, ℕ, zero, suc, ◌+◌, ◌<◌, ◌≤◌, ◌==◌, ◌&&◌, Bool, true, false, cond, List, [], ◌∷◌, length, map, filter, count_by, refl, ap, ◌∙◌, arith, inl, inr}
use Rattle.std.specs.List.{flat_map, range_with_len}
use Rattle.std.proofs.lemmas.Bool.{and_from, cases_eq, eq-eqb, eqb-true, ne_eqb}
use Rattle.std.proofs.lemmas.List.Sums.{sum_by-append}
use Rattle.stn_model.specs.declared.plant.Plant.{Plant}
use Rattle.time_grid.proofs.SlotList.{sum_by-filter, sum_by-map, sum_by-same}
use Rattle.setup_slots.specs.declared.setup.SetupSlot.{SetupSlot}
use Rattle.setup_slots.specs.declared.setup.SetupSlot.TheVariants.{First, Change}
use Rattle.setup_slots.specs.Image.{is_same}
use Rattle.setup_slots.specs.Slots.{changes_among, changes_between, has_slots, is_change, setup_slots, setup_tasks}
use Rattle.setup_slots.proofs.Exchange.{StandsOnce, count-no, count-yes}

-- what none of some lists has, none of their items being counted
count-none : {X : Type 0} (p : X → Bool) (xs : List X) → ((x : X) → p x ≡ false) → count_by p xs ≡ 0
count-none p [] fails = refl
count-none p (x ∷ xs) fails = count-no p x xs (fails x) ∙ count-none p xs fails

count-flat_map_none : {X Y : Type 0} (q : Y → Bool) (g : X → List Y) (xs : List X) → ((x : X) → count_by q (g x) ≡ 0) → count_by q (flat_map g xs) ≡ 0
count-flat_map_none q g [] fails = refl
count-flat_map_none q g (x ∷ xs) fails = sum_by-append (λ y. cond (q y) 1 0) (g x) (flat_map g xs) ∙ omega (arith, fails x, count-flat_map_none q g xs fails)

-- where one number alone has what is counted, and stands nowhere or once
count-flat_map_no : {Y : Type 0} (q : Y → Bool) (g : ℕ → List Y) (x : ℕ) (xs : List ℕ) → ((y : ℕ) → (y ≡ x → ⊥) → count_by q (g y) ≡ 0) → count_by (λ y. y == x) xs ≡ 0 → count_by q (flat_map g xs) ≡ 0
count-flat_map_no q g x [] other none = refl
count-flat_map_no q g x (y ∷ xs) other none =
    elim (cases_eq y x) [
      | inl e ↦ absurd (let more = count-yes (λ z. z == x) y xs (eq-eqb y x e) in omega arith)
      | inr e ↦
          let more = count-no (λ z. z == x) y xs (ne_eqb y x e) in
          sum_by-append (λ z. cond (q z) 1 0) (g y) (flat_map g xs) ∙ omega (arith, other y e, count-flat_map_no q g x xs other (omega arith))
    ]

count-flat_map_once : {Y : Type 0} (q : Y → Bool) (g : ℕ → List Y) (x : ℕ) (xs : List ℕ) → ((y : ℕ) → (y ≡ x → ⊥) → count_by q (g y) ≡ 0) → count_by (λ y. y == x) xs ≡ 1 → count_by q (flat_map g xs) ≡ count_by q (g x)
count-flat_map_once q g x [] other one = absurd (omega arith)
count-flat_map_once q g x (y ∷ xs) other one =
    let both = sum_by-append (λ z. cond (q z) 1 0) (g y) (flat_map g xs) in
    elim (cases_eq y x) [
      | inl e ↦
          let more = count-yes (λ z. z == x) y xs (eq-eqb y x e) in
          both ∙ omega (arith, ap (λ z. count_by q (g z)) e, count-flat_map_no q g x xs other (omega arith))
      | inr e ↦
          let more = count-no (λ z. z == x) y xs (ne_eqb y x e) in
          both ∙ omega (arith, other y e, count-flat_map_once q g x xs other (omega arith))
    ]

-- a number of a range stands there once
range-before : (x a n : ℕ) → x < a → count_by (λ y. y == x) (range_with_len a n) ≡ 0
range-before x a zero less = refl
range-before x a (suc n) less = count-no (λ y. y == x) a (range_with_len (a + 1) n) (ne_eqb a x (λ e. omega arith)) ∙ range-before x (a + 1) n (omega arith)

range-once : (x a n : ℕ) → a ≤ x → x < a + n → count_by (λ y. y == x) (range_with_len a n) ≡ 1
range-once x a zero least most = absurd (omega arith)
range-once x a (suc n) least most =
    elim (cases_eq a x) [
      | inl e ↦ count-yes (λ y. y == x) a (range_with_len (a + 1) n) (eq-eqb a x e) ∙ ap (λ k. 1 + k) (range-before x (a + 1) n (omega arith))
      | inr e ↦ count-no (λ y. y == x) a (range_with_len (a + 1) n) (ne_eqb a x e) ∙ range-once x (a + 1) n (omega arith) (omega arith)
    ]

both_tests : (t u : Bool) → (u ≡ true → t ≡ true) → ◌≡◌ {A = ℕ} (cond t (cond u 1 0) 0) (cond u 1 0)
both_tests true u h = refl
both_tests false true h = absurd (let bad : false ≡ true = h refl in cc)
both_tests false false h = refl

-- a filter keeps what passes it
count-filter : {X : Type 0} (p q : X → Bool) (xs : List X) → ((x : X) → q x ≡ true → p x ≡ true) → count_by q (filter p xs) ≡ count_by q xs
count-filter p q xs kept =
    sum_by-filter p (λ x. cond (q x) 1 0) xs
    ∙ sum_by-same (λ x. cond (p x) (cond (q x) 1 0) 0) (λ x. cond (q x) 1 0) (λ x. both_tests (p x) (q x) (kept x)) xs

filter-once : (p : ℕ → Bool) (x n : ℕ) → p x ≡ true → x < n → count_by (λ y. y == x) (filter p (range_with_len 0 n)) ≡ 1
filter-once p x n passes less =
    count-filter p (λ y. y == x) (range_with_len 0 n) (λ y t. ap p (eqb-true y x t) ∙ passes) ∙ range-once x 0 n (omega arith) (omega arith)

-- a task of the unit stands once among its tasks
pub task-once : (plant : Plant) (unit task : ℕ) → has_slots plant unit task ≡ true → task < length plant.tasks → count_by (λ k. k == task) (setup_tasks plant unit) ≡ 1
unfolding setup_tasks
task-once plant unit task has less = filter-once (has_slots plant unit) task (length plant.tasks) has less

-- a change is no first task
no_first : (plant : Plant) (unit task from to : ℕ) → count_by (λ s. is_same s (First task)) (changes_between plant unit from to) ≡ 0
unfolding changes_between
no_first plant unit task from to =
    sum_by-map (λ s. cond (is_same s (First task)) 1 0) (Change from to) (filter (is_change plant unit from to) (range_with_len 0 plant.periods))
    ∙ count-none (λ period. is_same (Change from to period) (First task)) (filter (is_change plant unit from to) (range_with_len 0 plant.periods)) (λ period. refl)

-- a task of the unit may come first, in one slot
pub first-once : (plant : Plant) (unit task : ℕ) → has_slots plant unit task ≡ true → task < length plant.tasks → StandsOnce (setup_slots plant unit) (First task)
unfolding setup_slots changes_among
first-once plant unit task has less =
    let tasks = setup_tasks plant unit in
    let q : SetupSlot → Bool = λ s. is_same s (First task) in
    let firsts : count_by q (map First tasks) ≡ 1 = sum_by-map (λ s. cond (q s) 1 0) First tasks ∙ task-once plant unit task has less in
    let changes : count_by q (changes_among plant unit tasks) ≡ 0 =
    count-flat_map_none q (λ from. flat_map (changes_between plant unit from) tasks) tasks (λ from. count-flat_map_none q (changes_between plant unit from) tasks (λ to. no_first plant unit task from to)) in
    sum_by-append (λ s. cond (q s) 1 0) (map First tasks) (changes_among plant unit tasks) ∙ omega (arith, firsts, changes)

-- changes between other tasks are others
other_from : (plant : Plant) (unit from to period i k : ℕ) → (i ≡ from → ⊥) → count_by (λ s. is_same s (Change from to period)) (changes_between plant unit i k) ≡ 0
unfolding changes_between
other_from plant unit from to period i k other =
    let periods = filter (is_change plant unit i k) (range_with_len 0 plant.periods) in
    sum_by-map (λ s. cond (is_same s (Change from to period)) 1 0) (Change i k) periods
    ∙ count-none (λ at. i == from && k == to && at == period) periods (λ at. ap (λ t. t && k == to && at == period) (ne_eqb i from other))

and_no : (t u v : Bool) → u ≡ false → (t && u && v) ≡ false
and_no true u v e = ap (λ w. w && v) e
and_no false u v e = refl

other_to : (plant : Plant) (unit from to period i k : ℕ) → (k ≡ to → ⊥) → count_by (λ s. is_same s (Change from to period)) (changes_between plant unit i k) ≡ 0
unfolding changes_between
other_to plant unit from to period i k other =
    let periods = filter (is_change plant unit i k) (range_with_len 0 plant.periods) in
    sum_by-map (λ s. cond (is_same s (Change from to period)) 1 0) (Change i k) periods
    ∙ count-none (λ at. i == from && k == to && at == period) periods (λ at. and_no (i == from) (k == to) (at == period) (ne_eqb k to other))

-- a change between two tasks stands once among those between them
between-once : (plant : Plant) (unit from to period : ℕ) → is_change plant unit from to period ≡ true → period < plant.periods → count_by (λ s. is_same s (Change from to period)) (changes_between plant unit from to) ≡ 1
unfolding changes_between
between-once plant unit from to period is less =
    let periods = filter (is_change plant unit from to) (range_with_len 0 plant.periods) in
    sum_by-map (λ s. cond (is_same s (Change from to period)) 1 0) (Change from to) periods
    ∙ sum_by-same (λ at. cond (from == from && to == to && at == period) 1 0) (λ at. cond (at == period) 1 0)
    (λ at. ap (λ t. cond (t && at == period) 1 0) (and_from (from == from) (to == to) (eq-eqb from from refl) (eq-eqb to to refl))) periods
    ∙ filter-once (is_change plant unit from to) period plant.periods is less

-- a change to which the unit can go over stands in one slot
pub change-once : (plant : Plant) (unit from to period : ℕ) → count_by (λ k. k == from) (setup_tasks plant unit) ≡ 1 → count_by (λ k. k == to) (setup_tasks plant unit) ≡ 1 →
    is_change plant unit from to period ≡ true → period < plant.periods → StandsOnce (setup_slots plant unit) (Change from to period)
unfolding setup_slots changes_among
change-once plant unit from to period from_one to_one is less =
    let tasks = setup_tasks plant unit in
    let q : SetupSlot → Bool = λ s. is_same s (Change from to period) in
    let firsts : count_by q (map First tasks) ≡ 0 = sum_by-map (λ s. cond (q s) 1 0) First tasks ∙ count-none (λ k. is_same (First k) (Change from to period)) tasks (λ k. refl) in
    let inner : count_by q (flat_map (changes_between plant unit from) tasks) ≡ 1 =
    count-flat_map_once q (changes_between plant unit from) to tasks (λ k e. other_to plant unit from to period from k e) to_one ∙ between-once plant unit from to period is less in
    let changes : count_by q (changes_among plant unit tasks) ≡ 1 =
    count-flat_map_once q (λ i. flat_map (changes_between plant unit i) tasks) from tasks (λ i e. count-flat_map_none q (changes_between plant unit i) tasks (λ k. other_from plant unit from to period i k e)) from_one ∙ inner in
    sum_by-append (λ s. cond (q s) 1 0) (map First tasks) (changes_among plant unit tasks) ∙ omega (arith, firsts, changes)
