-- What fits within a shorter horizon fits the plant, and so there are no more slots.
use Rattle.std.proofs.Common.{◌≡◌, ℕ, zero, suc, ◌+◌, ◌<◌, ◌≤◌, Bool, true, false, cond, eqb, ltb, List, [], ◌∷◌, length, refl, arith, Option, Some, None}
use Rattle.std.specs.Prelude.{IfSome, find, sum_by}
use Rattle.std.proofs.Common.{inl, inr}
use Rattle.std.specs.List.{list_all}
use Rattle.std.proofs.lemmas.Bool.{and_parts, and_from, eqb-true, leb-true, le-leb, false≢true, cases_Bool, cases_eq}
use Rattle.std.proofs.lemmas.Bool.Decides.{nat_tests}
use Rattle.std.proofs.lemmas.List.Sums.{sum_by-le-sum_by}
use Rattle.stn_model.specs.declared.plant.Plant.{Plant}
use Rattle.stn_model.specs.declared.plant.Outage.{Outage}
use Rattle.stn_model.specs.declared.plant.Run.{Run}
use Rattle.stn_model.specs.declared.start.Start.{Start}
use Rattle.stn_model.specs.Sums.{sum_below, count_below}
use Rattle.stn_model.specs.Plant.{run_on, is_of, is_in_use, is_clear_of, end_of, duration_of, task_at, gap_between}
use Rattle.stn_model.specs.Fits.{Fits, is_fit, has_size}
use Rattle.stn_model.specs.Points.{least_start, has_slot, slots_of, slot_count, meets_gap, gap_pairs}
use Rattle.stn_model.specs.Sound.{Sound, SoundRun}
use Rattle.stn_model.proofs.Fitting.{found-All, duration_pos}
use Rattle.shorter_plant.specs.PlantAt.{plant_at, outage_until, outages_until}

-- a batch that ends by the horizon is clear of an outage where it is clear of the part of it that is before the horizon
clear_of_part : (horizon unit from to : ℕ) (outage : Outage) → to ≤ horizon → from < to → is_clear_of unit from to (outage_until horizon outage) ≡ true → is_clear_of unit from to outage ≡ true
clear_of_part horizon unit from to outage ends begins clear = grind (arith, nat_tests)

-- and where the outage begins at the horizon or later
clear_of_late : (horizon unit from to : ℕ) (outage : Outage) → to ≤ horizon → ltb outage.from horizon ≡ false → is_clear_of unit from to outage ≡ true
clear_of_late horizon unit from to outage ends late = grind (arith, nat_tests)

clear_of_all : (horizon unit from to : ℕ) (outages : List Outage) → to ≤ horizon → from < to
    → list_all (is_clear_of unit from to) (outages_until horizon outages) ≡ true → list_all (is_clear_of unit from to) outages ≡ true
clear_of_all horizon unit from to [] ends begins clear = refl
clear_of_all horizon unit from to (outage ∷ outages) ends begins clear =
    elim (cases_Bool (ltb outage.from horizon)) [
      | inl e ↦
          let both = and_parts _ _ (rw e at clear) in
          and_from _ _ (clear_of_part horizon unit from to outage ends begins both.0) (clear_of_all horizon unit from to outages ends begins both.1)
      | inr e ↦
          let rest = rw e at clear in
          and_from _ _ (clear_of_late horizon unit from to outage ends e) (clear_of_all horizon unit from to outages ends begins rest)
    ]

-- the task of a run that is found is there
task_of : (plant : Plant) (quanta task unit : ℕ) (found : Option Run) → IfSome found (λ run. SoundRun plant run × (is_of task unit run ≡ true)) → has_size quanta found ≡ true → task < length plant.tasks
task_of plant quanta task unit None is size = absurd (false≢true size)
task_of plant quanta task unit (Some run) is size =
    let both = and_parts (eqb run.task task) (eqb run.unit unit) is.1 in
    let same : run.task ≡ task = eqb-true run.task task both.0 in
    let there = is.0.task in
    omega arith

-- a start that fits within the horizon fits the plant
pub fits_longer : (plant : Plant) (horizon : ℕ) (start : Start) → Sound plant → horizon ≤ plant.periods → Fits (plant_at plant horizon) start → Fits plant start
unfolding plant_at is_fit run_on end_of is_in_use
fits_longer plant horizon start sound less fits =
    let last = and_parts _ _ fits in
    let first = and_parts _ _ last.0 in
    let size : has_size start.quanta (find (is_of start.task start.unit) plant.runs) ≡ true = first.0 in
    let ends : start.period + duration_of (task_at plant start.task) ≤ horizon = leb-true _ _ first.1 in
    let there : start.task < length plant.tasks = task_of plant start.quanta start.task start.unit (find (is_of start.task start.unit) plant.runs) (found-All (SoundRun plant) (is_of start.task start.unit) plant.runs sound.runs) size in
    let some = duration_pos plant start.task sound there in
    let clear = clear_of_all horizon start.unit start.period (start.period + duration_of (task_at plant start.task)) plant.outages ends (omega arith) last.1 in
    and_from _ _ (and_from _ _ size (le-leb _ _ (omega arith))) clear

sum_below-more : (f : ℕ → ℕ) (n m : ℕ) → n ≤ m → sum_below f n ≤ sum_below f m
sum_below-more f n zero less = let e : n ≡ 0 = omega arith in rw e (omega arith)
sum_below-more f n (suc m) less =
    elim (cases_eq n (suc m)) [
      | inl e ↦ rw e (omega arith)
      | inr other ↦ omega (arith, sum_below-more f n m (omega arith))
    ]

sum_below-each : (f g : ℕ → ℕ) (n : ℕ) → ((k : ℕ) → f k ≤ g k) → sum_below f n ≤ sum_below g n
sum_below-each f g zero each = omega arith
sum_below-each f g (suc n) each = omega (arith, sum_below-each f g n each, each n)

-- a sum of lesser numbers over fewer places is no greater
sum_below-less : (f g : ℕ → ℕ) (n m : ℕ) → n ≤ m → ((k : ℕ) → f k ≤ g k) → sum_below f n ≤ sum_below g m
sum_below-less f g n m less each = omega (arith, sum_below-each f g n each, sum_below-more g n m less)

-- and a count of places where a stricter test passes
one_less : (b c : Bool) → (b ≡ true → c ≡ true) → cond b 1 0 ≤ cond c 1 0
one_less true true weaker = omega arith
one_less true false weaker = absurd (false≢true (weaker refl))
one_less false true weaker = omega arith
one_less false false weaker = omega arith

count_below-less : (p q : ℕ → Bool) (n m : ℕ) → n ≤ m → ((k : ℕ) → p k ≡ true → q k ≡ true) → count_below p n ≤ count_below q m
count_below-less p q n m less weaker = sum_below-less (λ k. cond (p k) 1 0) (λ k. cond (q k) 1 0) n m less (λ k. one_less (p k) (q k) (weaker k))

-- a slot within the horizon is a slot of the plant
slot_longer : (plant : Plant) (horizon : ℕ) (run : Run) (period : ℕ) → Sound plant → horizon ≤ plant.periods → has_slot (plant_at plant horizon) run period ≡ true → has_slot plant run period ≡ true
unfolding has_slot
slot_longer plant horizon run period sound less has = fits_longer plant horizon (least_start run period) sound less has

-- there are no more slots
pub fewer_slots : (plant : Plant) (horizon : ℕ) → Sound plant → horizon ≤ plant.periods → slot_count (plant_at plant horizon) ≤ slot_count plant
unfolding plant_at slot_count slots_of
fewer_slots plant horizon sound less =
    sum_by-le-sum_by (λ run. count_below (has_slot (plant_at plant horizon) run) horizon) (λ run. count_below (has_slot plant run) plant.periods) plant.runs
    (λ run. count_below-less (has_slot (plant_at plant horizon) run) (has_slot plant run) horizon plant.periods less (λ k has. slot_longer plant horizon run k sound less has))

-- a pair of slots that a gap keeps apart within the horizon is one of the plant
pair_longer : (plant : Plant) (horizon : ℕ) (a : Run) (p : ℕ) (b : Run) (q : ℕ) → Sound plant → horizon ≤ plant.periods → meets_gap (plant_at plant horizon) a p b q ≡ true → meets_gap plant a p b q ≡ true
unfolding plant_at meets_gap gap_between
pair_longer plant horizon a p b q sound less meets =
    let fifth = and_parts _ _ meets in
    let fourth = and_parts _ _ fifth.0 in
    let third = and_parts _ _ fourth.0 in
    let second = and_parts _ _ third.0 in
    and_from _ _ (and_from _ _ (and_from _ _ (and_from _ _ second.0 (slot_longer plant horizon a p sound less second.1)) (slot_longer plant horizon b q sound less third.1)) fourth.1) fifth.1

-- there are no more such pairs
pub fewer_pairs : (plant : Plant) (horizon : ℕ) → Sound plant → horizon ≤ plant.periods → gap_pairs (plant_at plant horizon) ≤ gap_pairs plant
unfolding plant_at gap_pairs
fewer_pairs plant horizon sound less =
    let short = plant_at plant horizon in
    let after : (a : Run) (p : ℕ) → sum_by (λ b. count_below (meets_gap short a p b) horizon) plant.runs ≤ sum_by (λ b. count_below (meets_gap plant a p b) plant.periods) plant.runs =
    λ a p. sum_by-le-sum_by _ _ plant.runs (λ b. count_below-less (meets_gap short a p b) (meets_gap plant a p b) horizon plant.periods less (λ q meets. pair_longer plant horizon a p b q sound less meets)) in
    sum_by-le-sum_by _ _ plant.runs (λ a. sum_below-less _ _ horizon plant.periods less (λ p. after a p))
