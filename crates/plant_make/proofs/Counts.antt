-- Bounds of sums and counts, and of the slots and gaps of a plant.
use Rattle.std.proofs.Common.{◌≡◌, ℕ, zero, suc, ◌+◌, ◌*◌, ◌<◌, ◌≤◌, ◌&&◌, nat_le, nat_lt, eqb, Bool, true, false, cond, List, [], ◌∷◌, length, inl, inr, arith}
use Rattle.std.specs.List.{AllByRecursion, sum_by}
use Rattle.std.proofs.lemmas.Bool.{cases_Bool, and_parts, leb-true, ltb-true}
use Rattle.std.proofs.lemmas.List.Sums.{sum_by-cons}
use Rattle.stn_model.specs.declared.plant.Plant.{Plant}
use Rattle.stn_model.specs.declared.plant.Run.{Run}
use Rattle.stn_model.specs.declared.plant.Gap.{Gap}
use Rattle.stn_model.specs.Sums.{greatest_by, sum_below, count_below}
use Rattle.stn_model.specs.Plant.{task_at, duration_of, gap_between, is_between}
use Rattle.stn_model.specs.Points.{has_slot, slots_of, slot_count, meets_gap, gap_pairs}
use Rattle.plant_text.proofs.Counting.{count_below-none}

sum_by-most : {X : Type 0} (f : X → ℕ) (most : ℕ) (xs : List X) → ((x : X) → f x ≤ most) → sum_by f xs ≤ most * length xs
sum_by-most f most [] small = omega arith
sum_by-most f most (x ∷ xs) small = omega (arith, sum_by-cons f x xs, sum_by-most f most xs small, small x)

sum_below-most : (f : ℕ → ℕ) (most n : ℕ) → ((k : ℕ) → f k ≤ most) → sum_below f n ≤ most * n
sum_below-most f most zero small = omega arith
sum_below-most f most (suc n) small = omega (arith, sum_below-most f most n small, small n)

one_at_most : (b : Bool) → cond b 1 0 ≤ 1
one_at_most true = omega arith
one_at_most false = omega arith

count_below-most : (p : ℕ → Bool) (n : ℕ) → count_below p n ≤ 1 * n
count_below-most p n = sum_below-most (λ k. cond (p k) 1 0) 1 n (λ k. one_at_most (p k))

-- a test that one number alone passes
count_below-one : (p : ℕ → Bool) (only n : ℕ) → ((k : ℕ) → p k ≡ true → k ≡ only) → count_below p n ≤ 1
count_below-one p only zero alone = omega arith
count_below-one p only (suc n) alone =
    elim (cases_Bool (p n)) [
      | inl e ↦
          let none = count_below-none p n (λ k below. elim (cases_Bool (p k)) [ inl there ↦ absurd (omega (arith, alone k there, alone n e)) | inr e ↦ e ]) in
          rw e (omega (arith, none))
      | inr e ↦ let rest = count_below-one p only n alone in rw e (omega (arith, rest))
    ]

greatest_by-most : {X : Type 0} (f : X → ℕ) (most : ℕ) (xs : List X) → AllByRecursion (λ x. f x ≤ most) xs → greatest_by f xs ≤ most
greatest_by-most f most [] small = omega arith
greatest_by-most f most (x ∷ xs) small = omega (arith, small.0, greatest_by-most f most xs small.1)

-- each gap of the plant takes at most one period
abbrev pub AreShort : List Gap → Type 0
AreShort gaps = AllByRecursion (λ (gap : Gap). gap.periods ≤ 1) gaps

kept_short : (b : Bool) (n : ℕ) → n ≤ 1 → cond b n 0 ≤ 1
kept_short true n small = small
kept_short false n small = omega arith

all_short : (unit from to : ℕ) (gaps : List Gap) → AreShort gaps → AllByRecursion (λ (gap : Gap). cond (is_between unit from to gap) gap.periods 0 ≤ 1) gaps
all_short unit from to [] short = tt
all_short unit from to (gap ∷ gaps) short = (kept_short (is_between unit from to gap) gap.periods short.0, all_short unit from to gaps short.1)

gap_between-one : (plant : Plant) (unit from to : ℕ) → AreShort plant.gaps → gap_between plant unit from to ≤ 1
unfolding gap_between
gap_between-one plant unit from to short = greatest_by-most (λ (gap : Gap). cond (is_between unit from to gap) gap.periods 0) 1 plant.gaps (all_short unit from to plant.gaps short)

-- then a start comes too soon at one time alone, right at the end
too_soon : (plant : Plant) (a b : Run) (p q : ℕ) → AreShort plant.gaps → meets_gap plant a p b q ≡ true → q ≡ p + duration_of (task_at plant a.task)
unfolding meets_gap
too_soon plant a b p q short meets =
    let ending : ℕ = p + duration_of (task_at plant a.task) in
    let gap = gap_between-one plant a.unit a.task b.task short in
    let last = and_parts (eqb a.unit b.unit && has_slot plant a p && has_slot plant b q && nat_le ending q) (nat_lt q (ending + gap_between plant a.unit a.task b.task)) meets in
    let before = and_parts (eqb a.unit b.unit && has_slot plant a p && has_slot plant b q) (nat_le ending q) last.0 in
    let low : ending ≤ q = leb-true _ _ before.1 in
    let high : q < ending + gap_between plant a.unit a.task b.task = ltb-true _ _ last.1 in
    omega (arith, gap)

-- a plant of few periods and runs has few slots
pub few_slots : (plant : Plant) → plant.periods ≡ 12 → length plant.runs ≤ 16 → slot_count plant ≤ 512
unfolding slot_count slots_of
few_slots plant horizon few =
    let each : (run : Run) → count_below (has_slot plant run) plant.periods ≤ 12 = λ run. omega (arith, horizon, count_below-most (has_slot plant run) plant.periods) in
    omega (arith, sum_by-most (λ (run : Run). count_below (has_slot plant run) plant.periods) 12 plant.runs each)

-- and with short gaps few pairs of them
pub few_pairs : (plant : Plant) → plant.periods ≡ 12 → length plant.runs ≤ 16 → AreShort plant.gaps → gap_pairs plant ≤ 8192
unfolding gap_pairs
few_pairs plant horizon few short =
    let last : (a b : Run) (p : ℕ) → count_below (meets_gap plant a p b) plant.periods ≤ 1 = λ a b p. count_below-one (meets_gap plant a p b) (p + duration_of (task_at plant a.task)) plant.periods (λ q meets. too_soon plant a b p q short meets) in
    let seconds : (a : Run) (p : ℕ) → sum_by (λ (b : Run). count_below (meets_gap plant a p b) plant.periods) plant.runs ≤ 16 = λ a p. omega (arith, sum_by-most (λ (b : Run). count_below (meets_gap plant a p b) plant.periods) 1 plant.runs (λ b. last a b p)) in
    let firsts : (a : Run) → sum_below (λ p. sum_by (λ (b : Run). count_below (meets_gap plant a p b) plant.periods) plant.runs) plant.periods ≤ 192 = λ a. omega (arith, horizon, sum_below-most (λ p. sum_by (λ (b : Run). count_below (meets_gap plant a p b) plant.periods) plant.runs) 16 plant.periods (seconds a)) in
    omega (arith, sum_by-most (λ (a : Run). sum_below (λ p. sum_by (λ (b : Run). count_below (meets_gap plant a p b) plant.periods) plant.runs) plant.periods) 192 plant.runs firsts)
