-- The columns of changeovers sum to the changeover costs of the plan.
use Rattle.std.proofs.Common.{◌≡◌, ℕ, ◌+◌, List, [], ◌∷◌, ◌++◌, length, refl, ap, sym, ◌∙◌, subst, arith, Bool, true, false, cond, eqb, inl, inr, ◌&&◌}
use Rattle.std.specs.Prelude.{All, not, nat_lt, filter, sum_by}
use Rattle.std.specs.List.{flat_map, range_with_len, list_all}
use Rattle.std.proofs.lemmas.Bool.{cases_Bool, eqb-true}
use Rattle.std.proofs.lemmas.List.Elements.{All-head, All-tail, filter_passes}
use Rattle.std.proofs.lemmas.List.Sorted.{sum_by-IsPermutation}
use Rattle.std.proofs.lemmas.List.Sums.{sum_by-cons, sum_by-append}
use Rattle.stn_model.specs.declared.plant.Plant.{Plant}
use Rattle.stn_model.specs.declared.start.Start.{Start}
use Rattle.stn_model.specs.Plant.{cost_between, first_cost}
use Rattle.stn_model.specs.Batches.{is_amid, is_next, is_earlier, is_first}
use Rattle.stn_model.specs.Profit.{changeover, first_change, change_costs}
use Rattle.stn_model.specs.Fits.{Fits}
use Rattle.stn_model.specs.Sound.{Sound}
use Rattle.plan_tables.specs.Batches.{is_on, on_unit, in_order, charge, charge_between}
use Rattle.plan_tables.specs.Units.{unit_charges, ChargesAreCosts}
use Rattle.plan_tables.proofs.Orders.{all_grouped, units_below, each_once}

-- a test that each item left out passes
all_kept : {X : Type 0} (p q : X → Bool) → ((x : X) → p x ≡ false → q x ≡ true) → (xs : List X) → list_all q (filter p xs) ≡ list_all q xs
all_kept p q h [] = refl
all_kept p q h (x ∷ xs) = elim (cases_Bool (p x)) [
  | inl e ↦ rw e (ap (λ t. q x && t) (all_kept p q h xs))
  | inr e ↦ rw (e, h x e) (all_kept p q h xs)
]

-- a sum to which each item left out brings nothing
sum_kept : {X : Type 0} (p : X → Bool) (f : X → ℕ) → ((x : X) → p x ≡ false → f x ≡ 0) → (xs : List X) → sum_by f (filter p xs) ≡ sum_by f xs
sum_kept p f h [] = refl
sum_kept p f h (x ∷ xs) =
    let rest = sum_kept p f h xs in
    let more = sum_by-cons f x xs in
    elim (cases_Bool (p x)) [
      | inl e ↦ rw e (omega (arith, sum_by-cons f x (filter p xs), more, rest))
      | inr e ↦ rw e (omega (arith, h x e, more, rest))
    ]

-- sums of what is equal
sum_agree : {X : Type 0} (P : X → Type 0) (f g : X → ℕ) → ((x : X) → P x → f x ≡ g x) → (xs : List X) → All P xs → sum_by f xs ≡ sum_by g xs
sum_agree P f g h [] all = refl
sum_agree P f g h (x ∷ xs) all =
    omega (arith, sum_by-cons f x xs, sum_by-cons g x xs, h x (All-head P x xs all), sum_agree P f g h xs (All-tail P x xs all))

sum_same : {X : Type 0} (f g : X → ℕ) → ((x : X) → f x ≡ g x) → (xs : List X) → sum_by f xs ≡ sum_by g xs
sum_same f g h xs = sum_agree (λ x. Unit {0}) f g (λ x _. h x) xs (λ k d within. tt)

sum_two : {X : Type 0} (f g : X → ℕ) (xs : List X) → sum_by (λ x. f x + g x) xs ≡ sum_by f xs + sum_by g xs
sum_two f g [] = refl
sum_two f g (x ∷ xs) = omega (arith, sum_by-cons (λ y. f y + g y) x xs, sum_by-cons f x xs, sum_by-cons g x xs, sum_two f g xs)

sum_none : {X : Type 0} (xs : List X) → sum_by (λ x. 0) xs ≡ 0
sum_none [] = refl
sum_none {X} (x ∷ xs) = omega (arith, sum_by-cons (λ (y : X). 0) x xs, sum_none xs)

-- a sum of sums, the other way round
sums_swap : {X Y : Type 0} (f : X → Y → ℕ) (ys : List Y) (xs : List X) → sum_by (λ x. sum_by (f x) ys) xs ≡ sum_by (λ y. sum_by (λ x. f x y) xs) ys
sums_swap {X} {Y} f ys [] = sym (sum_none ys)
sums_swap {X} {Y} f ys (x ∷ xs) =
    sum_by-cons (λ (z : X). sum_by (f z) ys) x xs
    ∙ ap (λ n. sum_by (f x) ys + n) (sums_swap f ys xs)
    ∙ sym (sum_two (f x) (λ y. sum_by (λ z. f z y) xs) ys)
    ∙ sum_same (λ (y : Y). f x y + sum_by (λ z. f z y) xs) (λ y. sum_by (λ z. f z y) (x ∷ xs)) (λ y. sym (sum_by-cons (λ z. f z y) x xs)) ys

-- a sum over pieces
sum_pieces : {X : Type 0} (f : X → ℕ) (g : ℕ → List X) (ks : List ℕ) → sum_by f (flat_map g ks) ≡ sum_by (λ k. sum_by f (g k)) ks
sum_pieces f g [] = refl
sum_pieces f g (k ∷ ks) = omega (arith, sum_by-append f (g k) (flat_map g ks), sum_by-cons (λ j. sum_by f (g j)) k ks, sum_pieces f g ks)

-- what is on another unit lies not between batches of this one
off_unit : (a b c : Start) → b.unit ≡ a.unit → is_on b.unit c ≡ false → not (is_amid a b c) ≡ true
off_unit a b c same e =
    let off : eqb c.unit a.unit ≡ false = subst (λ (u : ℕ). eqb c.unit u ≡ false) same e in
    rw off refl

-- a next batch is one among the batches of its unit
next_kept : (plan : List Start) (a b : Start) → is_next (on_unit plan b.unit) a b ≡ is_next plan a b
unfolding is_next
next_kept plan a b = elim (cases_Bool (eqb a.unit b.unit)) [
  | inl e ↦
      let same : b.unit ≡ a.unit = sym (eqb-true a.unit b.unit e) in
      ap (λ t. (eqb a.unit b.unit && nat_lt a.period b.period) && t) (all_kept (is_on b.unit) (λ c. not (is_amid a b c)) (λ c off. off_unit a b c same off) plan)
  | inr e ↦ rw e refl
]

-- a first batch is one among the batches of its unit
first_kept : (plan : List Start) (b : Start) → is_first (on_unit plan b.unit) b ≡ is_first plan b
unfolding is_first
first_kept plan b = all_kept (is_on b.unit) (λ a. not (is_earlier a b)) (λ a off. rw off refl) plan

-- so the changeovers to a batch are those among the batches of its unit
module _ (plant : Plant) (plan : List Start) where
  change_kept : (a b : Start) → changeover plant (on_unit plan b.unit) a b ≡ changeover plant plan a b
  unfolding changeover
  change_kept a b = ap (λ t. cond t (cost_between plant a.unit a.task b.task) 0) (next_kept plan a b)

  first_change_kept : (b : Start) → first_change plant (on_unit plan b.unit) b ≡ first_change plant plan b
  unfolding first_change
  first_change_kept b = ap (λ t. cond t (first_cost plant b.unit b.task) 0) (first_kept plan b)

  -- no batch of another unit is the one before it
  none_off : (b a : Start) → is_on b.unit a ≡ false → changeover plant plan a b ≡ 0
  unfolding changeover is_next
  none_off b a off = rw off refl

  between_kept : (b : Start) → charge_between plant (on_unit plan b.unit) b ≡ charge_between plant plan b
  between_kept b =
      sum_same (λ a. changeover plant (on_unit plan b.unit) a b) (λ a. changeover plant plan a b) (λ a. change_kept a b) (on_unit plan b.unit)
      ∙ sum_kept (is_on b.unit) (λ a. changeover plant plan a b) (none_off b) plan

  charge_kept : (b : Start) → charge plant (on_unit plan b.unit) b ≡ charge plant plan b
  unfolding charge
  charge_kept b = omega (arith, between_kept b, first_change_kept b)

  -- all that is charged on the batches of a plan
  all_charges : sum_by (charge plant plan) plan ≡ change_costs plant plan
  unfolding charge change_costs
  all_charges =
      sum_two (charge_between plant plan) (first_change plant plan) plan
      ∙ ap (λ n. n + sum_by (first_change plant plan) plan) (sym (sums_swap (changeover plant plan) plan plan))

  -- all that is charged on the batches of a unit
  unit_kept : (unit : ℕ) → unit_charges plant (on_unit plan unit) ≡ sum_by (charge plant plan) (on_unit plan unit)
  unit_kept unit =
      sum_agree (λ (b : Start). eqb b.unit unit ≡ true) (charge plant (on_unit plan unit)) (charge plant plan)
      (λ b on. ap (λ (u : ℕ). charge plant (on_unit plan u) b) (sym (eqb-true b.unit unit on)) ∙ charge_kept b)
      (on_unit plan unit) (filter_passes (is_on unit) plan)

-- the columns of changeovers sum to the changeover costs
pub charges_are_costs : (plant : Plant) (plan : List Start) → Sound plant → All (Fits plant) plan → ChargesAreCosts plant plan
charges_are_costs plant plan sound fits =
    let units : List ℕ = range_with_len 0 (length plant.units) in
    let pieces : List Start = flat_map (on_unit plan) units in
    record {
      units =
          sum_same (λ unit. unit_charges plant (on_unit plan unit)) (λ unit. sum_by (charge plant plan) (on_unit plan unit)) (unit_kept plant plan) units
          ∙ sym (sum_pieces (charge plant plan) (on_unit plan) units)
          ∙ sum_by-IsPermutation (charge plant plan) plan pieces (all_grouped (λ (start : Start). start.unit) plan (length plant.units) (units_below plant plan sound fits))
          ∙ all_charges plant plan;
      batches =
          sum_same (λ b. charge plant (on_unit plan b.unit) b) (charge plant plan) (charge_kept plant plan) (in_order plant plan)
          ∙ sum_by-IsPermutation (charge plant plan) plan (in_order plant plan) (each_once plant plan sound fits)
          ∙ all_charges plant plan;
    }
