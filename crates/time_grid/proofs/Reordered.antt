-- Feasibility and profit do not depend on the order of the starts.
use Rattle.std.proofs.Common.{◌≡◌, ◌≢◌, ℕ, ◌+◌, ◌<◌, ◌⊎◌, Bool, true, not, ◌&&◌, List, [], ◌∷◌, length, get_or, sum_by, ℤ, pos, ◌+ℤ◌, ◌-ℤ◌, ◌*ℤ◌, IsPermutation, swap, sym, refl, ap, ap₂, ◌∙◌, arith, inl, inr, ⊎_elim, nat_lt, ◌==◌, if◌then◌else◌}
use Rattle.std.specs.List.{All, AllPairs, list_all}
use Rattle.std.proofs.lemmas.Int.{ints}
use borrow.Author.Differences.{up, down}
use Rattle.std.proofs.lemmas.List.Elements.{All-weaker}
use Rattle.std.proofs.lemmas.List.Edits.{swapped_from_swap, length-swap}
use Rattle.std.proofs.lemmas.List.Sorted.{IsPermutation-keeps, IsPermutation-sym, All-permutation, sum_by-IsPermutation}
use Rattle.std.proofs.lemmas.List.Sums.{sum_by-cons, AllPass-from_list_all, list_all-from_AllPass}
use Rattle.std.proofs.lemmas.Bool.{cases_Bool, cases_order, cases_eq, true≢false, false_from_ne_true}
use Rattle.stn_model.specs.declared.plant.Plant.{Plant}
use Rattle.stn_model.specs.declared.start.Start.{Start}
use Rattle.stn_model.specs.Plant.{state_at, utility_at, rate_in, run_on, cost_between, first_cost}
use Rattle.stn_model.specs.Fits.{Fits}
use Rattle.stn_model.specs.Batches.{Apart, Begun, Cleaned, is_amid, is_earlier, is_first, is_next}
use Rattle.stn_model.specs.Stock.{given, taken, inflow, outflow, stock}
use Rattle.stn_model.specs.Load.{drawn, load}
use Rattle.stn_model.specs.Feasible.{Feasible}
use Rattle.stn_model.specs.Sums.{total}
use Rattle.stn_model.proofs.Totals.{total_below-agree}
use Rattle.stn_model.specs.Profit.{end_value, payments, holding_cost, utility_cost, cost_of, start_cost, changeover, first_change, change_costs, profit}

-- what holds of any two places, and does not depend on their order, holds after a swap
module _ {X : Type 0} (R : X → X → Type 0) (turned : (x y : X) → R x y → R y x) where
  Apart-both : List X → Type 0
  Apart-both xs = (i j : ℕ) (d : X) → i < length xs → j < length xs → i ≢ j → R (get_or xs i d) (get_or xs j d)

  both-from_pairs : (xs : List X) → AllPairs R xs → Apart-both xs
  unfolding Apart-both
  both-from_pairs xs h i j d l m n =
      elim (cases_order i j) [
        | inl e ↦ absurd (n e)
        | inr o ↦ elim o [ inl b ↦ h i j d b m | inr b ↦ turned (get_or xs j d) (get_or xs i d) (h j i d b l) ]
      ]

  pairs-from_both : (xs : List X) → Apart-both xs → AllPairs R xs
  unfolding Apart-both
  pairs-from_both xs h i j d l m = h i j d (omega arith) m (λ e. omega arith)

  -- where the item at a place stood before the swap
  record Stood (xs : List X) (i j k : ℕ) : Type 0 where
    place : ℕ
    within : place < length xs
    is : (d : X) → get_or (swap xs i j) k d ≡ get_or xs place d
    which : (k ≡ i × (place ≡ j)) ⊎ ((k ≡ j × (place ≡ i)) ⊎ ((k ≢ i) × (k ≢ j) × (place ≡ k)))

  stood : (xs : List X) (i j k : ℕ) → i < length xs → j < length xs → k < length xs → Stood xs i j k
  stood xs i j k l m n =
      elim (cases_eq k i) [
        | inl e ↦ record { place = j; within = m; is = λ d. ap (λ p. get_or (swap xs i j) p d) e ∙ (swapped_from_swap xs (swap xs i j) i j d l m refl).0; which = inl (e, refl) }
        | inr e ↦ elim (cases_eq k j) [
          | inl f ↦ record { place = i; within = l; is = λ d. ap (λ p. get_or (swap xs i j) p d) f ∙ (swapped_from_swap xs (swap xs i j) i j d l m refl).1; which = inr (inl (f, refl)) }
          | inr f ↦ record { place = k; within = n; is = λ d. (swapped_from_swap xs (swap xs i j) i j d l m refl).2 k e f; which = inr (inr (e, f, refl)) }
        ]
      ]

  -- two places that differ stood at two that differ
  apart_before : (xs : List X) (i j k m : ℕ) (p : Stood xs i j k) (q : Stood xs i j m) → k ≢ m → p.place ≢ q.place
  apart_before xs i j k m p q n e = cases p.which q.which
    where
      cases : (k ≡ i × (p.place ≡ j)) ⊎ ((k ≡ j × (p.place ≡ i)) ⊎ ((k ≢ i) × (k ≢ j) × (p.place ≡ k))) →
          (m ≡ i × (q.place ≡ j)) ⊎ ((m ≡ j × (q.place ≡ i)) ⊎ ((m ≢ i) × (m ≢ j) × (q.place ≡ m))) → ⊥
      cases (inl a) (inl b) = n (a.0 ∙ sym b.0)
      cases (inl a) (inr (inl b)) = n (a.0 ∙ sym b.1 ∙ sym e ∙ a.1 ∙ sym b.0)
      cases (inl a) (inr (inr b)) = b.1 (sym b.2 ∙ sym e ∙ a.1)
      cases (inr (inl a)) (inl b) = n (a.0 ∙ sym b.1 ∙ sym e ∙ a.1 ∙ sym b.0)
      cases (inr (inl a)) (inr (inl b)) = n (a.0 ∙ sym b.0)
      cases (inr (inl a)) (inr (inr b)) = b.0 (sym b.2 ∙ sym e ∙ a.1)
      cases (inr (inr a)) (inl b) = a.1 (sym a.2 ∙ e ∙ b.1)
      cases (inr (inr a)) (inr (inl b)) = a.0 (sym a.2 ∙ e ∙ b.1)
      cases (inr (inr a)) (inr (inr b)) = n (sym a.2 ∙ e ∙ b.2)

  both-swap : (xs : List X) (i j : ℕ) → i < length xs → j < length xs → Apart-both xs → Apart-both (swap xs i j)
  unfolding Apart-both
  both-swap xs i j l m h k k2 d n n2 ne =
      let p = stood xs i j k l m (omega (arith, length-swap xs i j)) in
      let q = stood xs i j k2 l m (omega (arith, length-swap xs i j)) in
      rw (p.is d, q.is d) (h p.place q.place d p.within q.within (apart_before xs i j k k2 p q ne))

  -- what holds of each two places holds in another order
  pub AllPairs-permutation : (xs ys : List X) → IsPermutation xs ys → AllPairs R xs → AllPairs R ys
  AllPairs-permutation xs ys same h =
      pairs-from_both ys (IsPermutation-keeps xs Apart-both (both-from_pairs xs h) (λ l i j p q b. both-swap l i j p q b) ys same)

-- a test that all pass
pub list_all-permutation : {X : Type 0} (p : X → Bool) (xs ys : List X) → IsPermutation xs ys → list_all p xs ≡ list_all p ys
list_all-permutation {X} p xs ys same =
    elim (cases_Bool (list_all p xs)) [
      | inl t ↦ t ∙ sym (list_all-from_AllPass p ys (All-permutation (λ (x : X). p x ≡ true) xs ys same (AllPass-from_list_all p xs t)))
      | inr t ↦ t ∙ sym (false_from_ne_true (list_all p ys) (λ u.
          true≢false (sym (list_all-from_AllPass p xs (All-permutation (λ (x : X). p x ≡ true) ys xs (IsPermutation-sym xs ys same) (AllPass-from_list_all p ys u))) ∙ t)))
    ]

-- a signed sum is the difference of two sums
total-parts : {X : Type 0} (f : X → ℤ) (xs : List X) → total f xs ≡ pos (sum_by (λ x. up (f x)) xs) -ℤ pos (sum_by (λ x. down (f x)) xs)
total-parts f [] = refl
total-parts f (x ∷ xs) =
    let u = sum_by-cons (λ y. up (f y)) x xs in
    let v = sum_by-cons (λ y. down (f y)) x xs in
    let ih = total-parts f xs in
    omega (arith, ints, ih, u, v)

pub total-permutation : {X : Type 0} (f : X → ℤ) (xs ys : List X) → IsPermutation xs ys → total f ys ≡ total f xs
total-permutation f xs ys same =
    total-parts f ys
    ∙ ap₂ (λ a b. pos a -ℤ pos b) (sum_by-IsPermutation (λ x. up (f x)) xs ys same) (sum_by-IsPermutation (λ x. down (f x)) xs ys same)
    ∙ sym (total-parts f xs)

next-permutation : (a b : Start) (P Q : List Start) → IsPermutation P Q → is_next P a b ≡ is_next Q a b
unfolding is_next
next-permutation a b P Q same = ap (λ t. a.unit == b.unit && nat_lt a.period b.period && t) (list_all-permutation (λ c. not (is_amid a b c)) P Q same)

first-permutation : (b : Start) (P Q : List Start) → IsPermutation P Q → is_first P b ≡ is_first Q b
unfolding is_first
first-permutation b P Q same = list_all-permutation (λ a. not (is_earlier a b)) P Q same

pub stock-permutation : (plant : Plant) (P Q : List Start) (state time : ℕ) → IsPermutation P Q → stock plant P state time ≡ stock plant Q state time
unfolding stock inflow outflow
stock-permutation plant P Q state time same =
    let come = sum_by-IsPermutation (given plant state time) P Q same in
    let gone = sum_by-IsPermutation (taken plant state time) P Q same in
    rw (come, gone)

pub load-permutation : (plant : Plant) (P Q : List Start) (utility period : ℕ) → IsPermutation P Q → load plant P utility period ≡ load plant Q utility period
unfolding load
load-permutation plant P Q utility period same = sym (sum_by-IsPermutation (drawn plant utility period) P Q same)

-- a feasible list is feasible in any order
pub Feasible-permutation : (plant : Plant) (P Q : List Start) → IsPermutation P Q → Feasible plant P → Feasible plant Q
Feasible-permutation plant P Q same is = record {
  fits = All-permutation (Fits plant) P Q same is.fits;
  apart = AllPairs-permutation (Apart plant) (λ x y h e. ⊎_elim (λ k. inr k) (λ k. inl k) (h (sym e))) P Q same is.apart;
  cleaned = All-permutation (λ a. All (Cleaned plant Q a) Q) P Q same
      (All-weaker (λ a. All (Cleaned plant P a) P) (λ a. All (Cleaned plant Q a) Q)
      (λ a h. All-permutation (Cleaned plant Q a) P Q same
      (All-weaker (Cleaned plant P a) (Cleaned plant Q a) (λ b c next. c (next-permutation a b P Q same ∙ next)) P h))
      P is.cleaned);
  begun = All-permutation (Begun plant Q) P Q same (All-weaker (Begun plant P) (Begun plant Q) (λ b c first. c (first-permutation b P Q same ∙ first)) P is.begun);
  stocks = λ state time l m. let kept = is.stocks state time l m in record {
    low = rw (← stock-permutation plant P Q state time same) kept.low;
    high = rw (← stock-permutation plant P Q state time same) kept.high;
  };
  loads = λ utility period l m. rw (← load-permutation plant P Q utility period same) (is.loads utility period l m);
}

sum_by-agree : {X : Type 0} (f g : X → ℕ) → ((x : X) → f x ≡ g x) → (xs : List X) → sum_by f xs ≡ sum_by g xs
sum_by-agree f g e [] = refl
sum_by-agree f g e (x ∷ xs) = simp sum_by-cons (omega (arith, e x, sum_by-agree f g e xs))

pairs-permutation : (plant : Plant) (P Q : List Start) → IsPermutation P Q → sum_by (λ a. sum_by (changeover plant P a) P) P ≡ sum_by (λ a. sum_by (changeover plant Q a) Q) Q
unfolding changeover
pairs-permutation plant P Q same =
    let each : (a : Start) → sum_by (changeover plant P a) P ≡ sum_by (changeover plant Q a) Q =
    λ a. sum_by-agree (changeover plant P a) (changeover plant Q a) (λ b. ap (λ t. if t then cost_between plant a.unit a.task b.task else 0) (next-permutation a b P Q same)) P
    ∙ sym (sum_by-IsPermutation (changeover plant Q a) P Q same) in
    sum_by-agree (λ a. sum_by (changeover plant P a) P) (λ a. sum_by (changeover plant Q a) Q) each P
    ∙ sym (sum_by-IsPermutation (λ a. sum_by (changeover plant Q a) Q) P Q same)

firsts-permutation : (plant : Plant) (P Q : List Start) → IsPermutation P Q → sum_by (first_change plant P) P ≡ sum_by (first_change plant Q) Q
unfolding first_change
firsts-permutation plant P Q same =
    sum_by-agree (first_change plant P) (first_change plant Q) (λ b. ap (λ t. if t then first_cost plant b.unit b.task else 0) (first-permutation b P Q same)) P
    ∙ sym (sum_by-IsPermutation (first_change plant Q) P Q same)

pub change_costs-permutation : (plant : Plant) (P Q : List Start) → IsPermutation P Q → change_costs plant P ≡ change_costs plant Q
unfolding change_costs
change_costs-permutation plant P Q same = ap₂ (λ x y. x + y) (pairs-permutation plant P Q same) (firsts-permutation plant P Q same)

-- the profit of a list is that of any order of it
pub profit-permutation : (plant : Plant) (P Q : List Start) → IsPermutation P Q → profit plant P ≡ profit plant Q
unfolding profit end_value holding_cost utility_cost start_cost
profit-permutation plant P Q same =
    let worth = total_below-agree _ _ (length plant.states) (λ state _. ap (λ n. (state_at plant state).price *ℤ n) (stock-permutation plant P Q state plant.periods same)) in
    let held = total_below-agree _ _ (length plant.states) (λ state _. total_below-agree _ _ plant.periods (λ time _. ap (λ n. (state_at plant state).holding *ℤ n) (stock-permutation plant P Q state time same))) in
    let used = total_below-agree _ _ (length plant.utilities) (λ utility _. total_below-agree _ _ plant.periods (λ period _. ap (λ n. rate_in (utility_at plant utility) period *ℤ pos n) (load-permutation plant P Q utility period same))) in
    let begun = sym (total-permutation (λ start. cost_of (run_on plant start.task start.unit)) P Q same) in
    let changed = change_costs-permutation plant P Q same in
    ap₂ (λ x y. x -ℤ pos y) (ap₂ (λ x y. x -ℤ y) (ap₂ (λ x y. x -ℤ y) (ap₂ (λ x y. (x +ℤ payments plant) -ℤ y) worth held) used) begun) changed
