-- The rolled plant has no more slots than the plant, and no more pairs of them that the cleaning keeps apart.
use Rattle.std.proofs.Common.{◌≡◌, ℕ, zero, suc, ◌+◌, ◌-◌, ◌<◌, ◌≤◌, Bool, true, false, cond, List, refl, ap, arith}
use Rattle.std.proofs.lemmas.Bool.{and_parts, and_from, leb-true, le-leb, false≢true}
use Rattle.std.proofs.lemmas.List.Sums.{sum_by-le-sum_by}
use Rattle.stn_model.specs.declared.plant.Plant.{Plant}
use Rattle.stn_model.specs.declared.plant.Run.{Run}
use Rattle.stn_model.specs.declared.start.Start.{Start}
use Rattle.stn_model.specs.Sums.{sum_below, count_below}
use Rattle.stn_model.specs.Plant.{gap_between}
use Rattle.stn_model.specs.Points.{least_start, has_slot, slots_of, slot_count, meets_gap, gap_pairs}
use Rattle.stn_model.specs.Sound.{Sound}
use Rattle.rolled_plant.specs.RolledPlant.{rolled_plant}
use Rattle.rolled_plant.proofs.Fitting.{fits_there}

sum_below-shift : (f : ℕ → ℕ) (n m : ℕ) → sum_below (λ k. f (n + k)) m ≤ sum_below f (n + m)
sum_below-shift f n zero = omega arith
sum_below-shift f n (suc m) =
    let e : n + suc m ≡ suc (n + m) = omega arith in
    let whole = ap (sum_below f) e in
    omega (arith, whole, sum_below-shift f n m)

sum_below-each : (f g : ℕ → ℕ) (n : ℕ) → ((k : ℕ) → f k ≤ g k) → sum_below f n ≤ sum_below g n
sum_below-each f g zero each = omega arith
sum_below-each f g (suc n) each = omega (arith, sum_below-each f g n each, each n)

-- a sum of lesser numbers over later places is no greater
sum_below-less : (f g : ℕ → ℕ) (n m whole : ℕ) → n + m ≡ whole → ((k : ℕ) → f k ≤ g (n + k)) → sum_below f m ≤ sum_below g whole
sum_below-less f g n m whole e each =
    let shifted = sum_below-shift g n m in
    let same = ap (sum_below g) e in
    omega (arith, sum_below-each f (λ k. g (n + k)) m each, shifted, same)

one_less : (b c : Bool) → (b ≡ true → c ≡ true) → cond b 1 0 ≤ cond c 1 0
one_less true true weaker = omega arith
one_less true false weaker = absurd (false≢true (weaker refl))
one_less false true weaker = omega arith
one_less false false weaker = omega arith

count_below-less : (p q : ℕ → Bool) (n m whole : ℕ) → n + m ≡ whole → ((k : ℕ) → p k ≡ true → q (n + k) ≡ true) → count_below p m ≤ count_below q whole
count_below-less p q n m whole e weaker = sum_below-less (λ k. cond (p k) 1 0) (λ k. cond (q k) 1 0) n m whole e (λ k. one_less (p k) (q (n + k)) (weaker k))

module _ (plant : Plant) (before : List Start) (period : ℕ) (sound : Sound plant) (within : period < plant.periods) where
  rest_is : period + (plant.periods - period) ≡ plant.periods
  rest_is = omega arith

  slot_there : (run : Run) (k : ℕ) → has_slot (rolled_plant plant before period) run k ≡ true → has_slot plant run (period + k) ≡ true
  unfolding has_slot
  slot_there run k has = fits_there plant before period (least_start run k) sound within has

  pub fewer_slots : slot_count (rolled_plant plant before period) ≤ slot_count plant
  unfolding slot_count slots_of rolled_plant
  fewer_slots =
      sum_by-le-sum_by (λ run. count_below (has_slot (rolled_plant plant before period) run) (plant.periods - period)) (λ run. count_below (has_slot plant run) plant.periods) plant.runs
      (λ run. count_below-less (has_slot (rolled_plant plant before period) run) (has_slot plant run) period (plant.periods - period) plant.periods rest_is (slot_there run))

  pair_there : (a : Run) (p : ℕ) (b : Run) (q : ℕ) → meets_gap (rolled_plant plant before period) a p b q ≡ true → meets_gap plant a (period + p) b (period + q) ≡ true
  unfolding meets_gap gap_between rolled_plant
  pair_there a p b q meets =
      let fifth = and_parts _ _ meets in
      let fourth = and_parts _ _ fifth.0 in
      let third = and_parts _ _ fourth.0 in
      let second = and_parts _ _ third.0 in
      let ends = leb-true _ _ fourth.1 in
      let soon = leb-true _ _ fifth.1 in
      and_from _ _ (and_from _ _ (and_from _ _ (and_from _ _ second.0 (slot_there a p second.1)) (slot_there b q third.1)) (le-leb _ _ (omega arith))) (le-leb _ _ (omega arith))

  pub fewer_pairs : gap_pairs (rolled_plant plant before period) ≤ gap_pairs plant
  unfolding gap_pairs rolled_plant
  fewer_pairs =
      sum_by-le-sum_by _ _ plant.runs (λ a. sum_below-less _ _ period (plant.periods - period) plant.periods rest_is (λ p.
      sum_by-le-sum_by _ _ plant.runs (λ b. count_below-less (meets_gap (rolled_plant plant before period) a p b) (meets_gap plant a (period + p) b) period (plant.periods - period) plant.periods rest_is (λ q meets. pair_there a p b q meets))))
