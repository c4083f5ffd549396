-- The plants that are made are sound.
use Rattle.std.proofs.Common.{◌≡◌, ◌≢◌, ℕ, zero, suc, ◌+◌, ◌*◌, ◌<◌, ◌≤◌, ◌&&◌, nat_le, eqb, Bool, true, false, not, cond, List, [], ◌∷◌, ◌++◌, map, length, replicate, Option, None, All, AllPairs, IsTrue, length-append, refl, sym, subst, ◌∙◌, inl, inr, arith}
use Rattle.std.specs.Prelude.{IfSome}
use Rattle.std.specs.List.{AllByRecursion, list_any}
use Rattle.std.specs.Char.{is_ascii_alphabetic}
use Rattle.std.specs.Str.{bytes_eq}
use Rattle.std.proofs.lemmas.Bool.{cases_Bool, and_parts, leb-true}
use Rattle.std.proofs.lemmas.Bool.Decides.{nat_tests}
use Rattle.std.proofs.lemmas.List.{length-replicate}
use Rattle.std.proofs.lemmas.List.Elements.{All-from_recursion}
use Rattle.std.proofs.lemmas.List.Kept.{AllPairs-cons}
use Rattle.std.proofs.lemmas.Slice.Eq.{bytes_eq-Decides}
use Rattle.stn_model.specs.declared.plant.Plant.{Plant}
use Rattle.stn_model.specs.declared.plant.State.{State}
use Rattle.stn_model.specs.declared.plant.Utility.{Utility}
use Rattle.stn_model.specs.declared.plant.StnUnit.{StnUnit}
use Rattle.stn_model.specs.declared.plant.Task.{Task}
use Rattle.stn_model.specs.declared.plant.Calendar.{Calendar}
use Rattle.stn_model.specs.declared.plant.Run.{Run}
use Rattle.stn_model.specs.declared.plant.Gap.{Gap}
use Rattle.stn_model.specs.Plant.{duration_of}
use Rattle.stn_model.specs.Sound.{Sound, SoundState, SoundUtility, SoundUnit, SoundInput, SoundOutput, SoundDraw, SoundTask, SoundRun, SoundGap, SoundCounts, SmallCounts, SoundNames, IsPart, is_name, is_name_byte}
use Rattle.stn_model.specs.Labels.{SoundCalendar, Unlabelled}
use Rattle.plant_make.specs.Made.{number_at, of_chain, letter_name, chained, states_of, second_task, tasks_of, runs_of, units_of, gaps_of, steam_of, plant_made}
use Rattle.plant_make.proofs.Counts.{AreShort, few_slots, few_pairs}
use Rattle.plant_make.proofs.Lists.{all_so}

-- a number is below its bound
taken-below : (seed place n : ℕ) → 0 < n → number_at seed place n < n
unfolding number_at
taken-below seed place n some = omega arith

length-chained : {X : Type 0} (add : ℕ → List X) (each n : ℕ) → ((k : ℕ) → length (add k) ≡ each) → length (chained add n) ≡ each * n
length-chained add each zero same = omega arith
length-chained add each (suc n) same = omega (arith, length-append (chained add n) (add n), length-chained add each n same, same n)

all_append : {X : Type 0} (P : X → Type 0) (xs ys : List X) → AllByRecursion P xs → AllByRecursion P ys → AllByRecursion P (xs ++ ys)
all_append P [] ys front back = back
all_append P (x ∷ xs) ys front back = (front.0, all_append P xs ys front.1 back)

all_chained : {X : Type 0} (P : X → Type 0) (add : ℕ → List X) (n : ℕ) → ((k : ℕ) → k < n → AllByRecursion P (add k)) → AllByRecursion P (chained add n)
all_chained P add zero each = tt
all_chained P add (suc n) each = all_append P (chained add n) (add n) (all_chained P add n (λ k below. each k (omega arith))) (each n (omega arith))

-- no two texts, and no two numbers, are the same
abbrev differ : {X : Type 0} → (X → X → Bool) → List X → Bool
differ same [] = true
differ same (x ∷ xs) = not (list_any (same x) xs) && differ same xs

not_true : (b : Bool) → not b ≡ true → b ≡ false
not_true true e = absurd cc
not_true false e = refl

none_same : {X : Type 0} (p : X → Bool) (xs : List X) → list_any p xs ≡ false → AllByRecursion (λ x. p x ≡ false) xs
none_same p [] none = tt
none_same p (x ∷ xs) none = elim (cases_Bool (p x)) [ inl e ↦ absurd (contradiction e none) | inr e ↦ (e, none_same p xs (rest e none)) ]
  where
    contradiction : p x ≡ true → list_any p (x ∷ xs) ≡ false → ⊥
    contradiction e none = let there : list_any p (x ∷ xs) ≡ true = rw e refl in cc

    rest : p x ≡ false → list_any p (x ∷ xs) ≡ false → list_any p xs ≡ false
    rest e none = rw e at none

apart : {Y X : Type 0} (see : Y → X) (same : X → X → Bool) → ((a b : X) → a ≡ b → same a b ≡ true) → (ys : List Y) → differ same (map see ys) ≡ true → AllPairs (λ (a b : Y). see a ≢ see b) ys
apart see same reflects [] are = λ i j d less within. absurd (omega arith)
apart see same reflects (y ∷ ys) are =
    let parts = and_parts (not (list_any (same (see y)) (map see ys))) (differ same (map see ys)) are in
    AllPairs-cons (λ a b. see a ≢ see b) y ys
    (All-from_recursion (λ b. see y ≢ see b) ys (others ys (none_same (same (see y)) (map see ys) (not_true _ parts.0))))
    (apart see same reflects ys parts.1)
  where
    others : (zs : List _) → AllByRecursion (λ x. same (see y) x ≡ false) (map see zs) → AllByRecursion (λ b. see y ≢ see b) zs
    others [] none = tt
    others (z ∷ zs) none = ((λ e. let there = reflects (see y) (see z) e in absurd cc), others zs none.1)

texts_reflect : (a b : List ℕ) → a ≡ b → bytes_eq a b ≡ true
texts_reflect a b e = (bytes_eq-Decides a b).1 e

numbers_reflect : (a b : ℕ) → a ≡ b → eqb a b ≡ true
numbers_reflect a b e = grind (arith, nat_tests)

-- the names of the states, the names of the tasks, and the tasks of the runs
state_names : (seed chains : ℕ) → 1 ≤ chains → chains ≤ 8 → differ bytes_eq (map (λ (state : State). state.name) (chained (states_of seed) chains)) ≡ true
unfolding states_of
state_names seed zero some most = absurd (omega arith)
state_names seed (suc zero) some most = refl
state_names seed (suc (suc zero)) some most = refl
state_names seed (suc (suc (suc zero))) some most = refl
state_names seed (suc (suc (suc (suc zero)))) some most = refl
state_names seed (suc (suc (suc (suc (suc zero))))) some most = refl
state_names seed (suc (suc (suc (suc (suc (suc zero)))))) some most = refl
state_names seed (suc (suc (suc (suc (suc (suc (suc zero))))))) some most = refl
state_names seed (suc (suc (suc (suc (suc (suc (suc (suc zero)))))))) some most = refl
state_names seed (suc (suc (suc (suc (suc (suc (suc (suc (suc n))))))))) some most = absurd (omega arith)

task_names : (seed chains : ℕ) → 1 ≤ chains → chains ≤ 8 → differ bytes_eq (map (λ (task : Task). task.name) (chained (tasks_of seed) chains)) ≡ true
unfolding tasks_of
task_names seed zero some most = absurd (omega arith)
task_names seed (suc zero) some most = refl
task_names seed (suc (suc zero)) some most = refl
task_names seed (suc (suc (suc zero))) some most = refl
task_names seed (suc (suc (suc (suc zero)))) some most = refl
task_names seed (suc (suc (suc (suc (suc zero))))) some most = refl
task_names seed (suc (suc (suc (suc (suc (suc zero)))))) some most = refl
task_names seed (suc (suc (suc (suc (suc (suc (suc zero))))))) some most = refl
task_names seed (suc (suc (suc (suc (suc (suc (suc (suc zero)))))))) some most = refl
task_names seed (suc (suc (suc (suc (suc (suc (suc (suc (suc n))))))))) some most = absurd (omega arith)

run_tasks : (seed chains : ℕ) → 1 ≤ chains → chains ≤ 8 → differ eqb (map (λ (run : Run). run.task) (chained (runs_of seed) chains)) ≡ true
unfolding runs_of
run_tasks seed zero some most = absurd (omega arith)
run_tasks seed (suc zero) some most = refl
run_tasks seed (suc (suc zero)) some most = refl
run_tasks seed (suc (suc (suc zero))) some most = refl
run_tasks seed (suc (suc (suc (suc zero)))) some most = refl
run_tasks seed (suc (suc (suc (suc (suc zero))))) some most = refl
run_tasks seed (suc (suc (suc (suc (suc (suc zero)))))) some most = refl
run_tasks seed (suc (suc (suc (suc (suc (suc (suc zero))))))) some most = refl
run_tasks seed (suc (suc (suc (suc (suc (suc (suc (suc zero)))))))) some most = refl
run_tasks seed (suc (suc (suc (suc (suc (suc (suc (suc (suc n))))))))) some most = absurd (omega arith)

unit_names : differ bytes_eq (map (λ (unit : StnUnit). unit.name) (chained units_of 3)) ≡ true
unfolding units_of
unit_names = refl

-- a digit from 1 to 9 is a byte of a name
digit_byte : (item : ℕ) → item < 9 → is_name_byte (49 + item) ≡ true
digit_byte item small = grind (arith, nat_tests)

name_of_letter : (letter item : ℕ) → is_ascii_alphabetic letter ≡ true → item < 9 → IsTrue (is_name (letter_name letter item))
name_of_letter letter item good small = rw (good, digit_byte item small) refl

all_repeated : (most n many : ℕ) → n ≤ most → AllByRecursion (λ k. k ≤ most) (replicate many n)
all_repeated most n zero small = tt
all_repeated most n (suc many) small = (small, all_repeated most n many small)

states_sound : (seed chain : ℕ) → chain < 8 → AllByRecursion (SoundState 12) (states_of seed chain)
unfolding states_of
states_sound seed chain below =
    let digit : chain < 9 = omega arith in
    let stock = taken-below seed (15 * chain + 0) 11 (omega arith) in
    let price = taken-below seed (15 * chain + 1) 3 (omega arith) in
    let limit = taken-below seed (15 * chain + 2) 5 (omega arith) in
    let holding = taken-below seed (15 * chain + 3) 2 (omega arith) in
    let earns = taken-below seed (15 * chain + 4) 11 (omega arith) in (
      record {
        name = name_of_letter 70 chain refl digit;
        label = inl refl;
        initial = omega (arith, stock);
        limits = inl refl;
        limit = λ k d within. absurd (omega arith);
        price = omega (arith, price);
        holding = omega arith;
      },
      (
        record {
          name = name_of_letter 73 chain refl digit;
          label = inl refl;
          initial = omega arith;
          limits = inr refl;
          limit = All-from_recursion (λ n. n ≤ 1000000000) (replicate 13 (20 + 10 * of_chain seed chain 2 5)) (all_repeated 1000000000 (20 + 10 * of_chain seed chain 2 5) 13 (omega (arith, limit)));
          price = omega arith;
          holding = omega (arith, holding);
        },
        (
          record {
            name = name_of_letter 80 chain refl digit;
            label = inl refl;
            initial = omega arith;
            limits = inl refl;
            limit = λ k d within. absurd (omega arith);
            price = omega (arith, earns);
            holding = omega arith;
          },
          tt,
        ),
      ),
    )

part_is : (quantum amount over under : ℕ) → 1 ≤ over → over ≤ under → under ≤ 10000 → amount * under ≡ quantum * over → IsPart quantum amount
part_is quantum amount over under some most small same = (over, (under, ((some, most), (omega arith, small), same)))

all_of_one : {X : Type 0} (P : X → Type 0) (x : X) → P x → All P (x ∷ [])
all_of_one P x here = All-from_recursion P (x ∷ []) (here, tt)

tasks_sound : (plant : Plant) (seed chains chain : ℕ) → length plant.states ≡ 3 * chains → length plant.utilities ≡ 1 → chain < chains → chains ≤ 8 → AllByRecursion (SoundTask plant) (tasks_of seed chain)
unfolding tasks_of duration_of
tasks_sound plant seed chains chain states utilities below most =
    let digit : chain < 9 = omega arith in
    let long : ℕ = 1 + of_chain seed chain 5 2 in
    let short = taken-below seed (15 * chain + 5) 2 (omega arith) in
    let lasts = taken-below seed (15 * chain + 6) 2 (omega arith) in (
      record {
        name = name_of_letter 77 chain refl digit;
        label = inl refl;
        colour = inl refl;
        quantum = (omega arith, omega arith);
        inputs = (omega arith, omega arith);
        outputs = (omega arith, omega arith);
        draws = omega arith;
        input = all_of_one (SoundInput plant 5) _ record { state = omega arith; part = part_is 5 5 1 1 (omega arith) (omega arith) (omega arith) (omega arith) };
        output = all_of_one (SoundOutput plant 5) _ record { state = omega arith; part = part_is 5 5 1 1 (omega arith) (omega arith) (omega arith) (omega arith); delay = (omega arith, omega (arith, short)) };
        draw = all_of_one (SoundDraw plant _) _ record {
          utility = omega arith;
          fixed = length-replicate long 1 ∙ omega arith;
          each = length-replicate long 1 ∙ omega arith;
          fixed_small = All-from_recursion (λ n. n ≤ 1000000) _ (all_repeated 1000000 1 long (omega arith));
          each_small = All-from_recursion (λ n. n ≤ 1000000) _ (all_repeated 1000000 1 long (omega arith));
        };
        taken = refl;
        given = refl;
      },
      (
        record {
          name = name_of_letter 75 chain refl digit;
          label = inl refl;
          colour = inl refl;
          quantum = (omega arith, omega arith);
          inputs = (omega arith, omega arith);
          outputs = (omega arith, omega arith);
          draws = omega arith;
          input = all_of_one (SoundInput plant 5) _ record { state = omega arith; part = part_is 5 5 1 1 (omega arith) (omega arith) (omega arith) (omega arith) };
          output = All-from_recursion (SoundOutput plant 5) (second_task seed chain).outputs (
            record { state = omega arith; part = part_is 5 4 4 5 (omega arith) (omega arith) (omega arith) (omega arith); delay = (omega arith, omega (arith, lasts)) },
            (record { state = omega arith; part = part_is 5 1 1 5 (omega arith) (omega arith) (omega arith) (omega arith); delay = (omega arith, omega arith) }, tt),
          );
          draw = λ k d within. absurd (omega arith);
          taken = refl;
          given = refl;
        },
        tt,
      ),
    )

runs_sound : (plant : Plant) (seed chains chain : ℕ) → length plant.tasks ≡ 2 * chains → length plant.units ≡ 3 → chain < chains → AllByRecursion (SoundRun plant) (runs_of seed chain)
unfolding runs_of
runs_sound plant seed chains chain tasks units below =
    let b7 = taken-below seed (15 * chain + 7) 3 (omega arith) in
    let b8 = taken-below seed (15 * chain + 8) 2 (omega arith) in
    let b9 = taken-below seed (15 * chain + 9) 5 (omega arith) in
    let b10 = taken-below seed (15 * chain + 10) 4 (omega arith) in
    let b11 = taken-below seed (15 * chain + 11) 3 (omega arith) in
    let b12 = taken-below seed (15 * chain + 12) 2 (omega arith) in
    let b13 = taken-below seed (15 * chain + 13) 5 (omega arith) in
    let b14 = taken-below seed (15 * chain + 14) 4 (omega arith) in (
      record { task = omega arith; unit = omega (arith, b7); least = omega arith; range = omega (arith, b8); most = omega (arith, b9); cost = omega (arith, b10) },
      (record { task = omega arith; unit = omega (arith, b11); least = omega arith; range = omega (arith, b12); most = omega (arith, b13); cost = omega (arith, b14) }, tt),
    )

gaps_sound : (plant : Plant) (unit : ℕ) → 4 ≤ length plant.tasks → unit < length plant.units → AllByRecursion (SoundGap plant) (gaps_of unit)
unfolding gaps_of
gaps_sound plant unit tasks there =
    (record { unit = there; from = omega arith; to = omega arith; periods = omega arith; cost = omega arith }, (record { unit = there; from = omega arith; to = omega arith; periods = omega arith; cost = omega arith }, tt))

gaps_short : (unit : ℕ) → AreShort (gaps_of unit)
unfolding gaps_of
gaps_short unit = (omega arith, (omega arith, tt))

-- what holds of the gaps, where there is a second chain
where_second : (P : Gap → Type 0) (chains : ℕ) → (2 ≤ chains → AllByRecursion P (chained gaps_of 3)) → AllByRecursion P (cond (nat_le 2 chains) (chained gaps_of 3) [])
where_second P chains there = elim (cases_Bool (nat_le 2 chains)) [ inl e ↦ rw e (there (leb-true _ _ e)) | inr e ↦ rw e tt ]

-- how many items a chain adds
three_states : (seed chain : ℕ) → length (states_of seed chain) ≡ 3
unfolding states_of
three_states seed chain = refl

two_tasks : (seed chain : ℕ) → length (tasks_of seed chain) ≡ 2
unfolding tasks_of
two_tasks seed chain = refl

two_runs : (seed chain : ℕ) → length (runs_of seed chain) ≡ 2
unfolding runs_of
two_runs seed chain = refl

one_unit : (unit : ℕ) → length (units_of unit) ≡ 1
unfolding units_of
one_unit unit = refl

units_good : (plant : Plant) (unit : ℕ) → unit < 3 → AllByRecursion (SoundUnit plant) (units_of unit)
unfolding units_of
units_good plant unit below = (record { name = name_of_letter 85 unit refl (omega arith); label = inl refl; last = tt }, tt)

-- no batch held a unit before
units_fresh : (unit : ℕ) → unit < 3 → AllByRecursion (λ (u : StnUnit). u.last ≡ None) (units_of unit)
unfolding units_of
units_fresh unit below = (refl, tt)

-- nothing has a label or a colour
states_bare : (seed chain : ℕ) → AllByRecursion (λ (state : State). state.label ≡ []) (states_of seed chain)
unfolding states_of
states_bare seed chain = (refl, (refl, (refl, tt)))

units_bare : (unit : ℕ) → AllByRecursion (λ (u : StnUnit). u.label ≡ []) (units_of unit)
unfolding units_of
units_bare unit = (refl, tt)

tasks_bare : (seed chain : ℕ) → AllByRecursion (λ (task : Task). task.label ≡ []) (tasks_of seed chain)
unfolding tasks_of
tasks_bare seed chain = (refl, (refl, tt))

tasks_grey : (seed chain : ℕ) → AllByRecursion (λ (task : Task). task.colour ≡ []) (tasks_of seed chain)
unfolding tasks_of
tasks_grey seed chain = (refl, (refl, tt))

steam_bare : (seed chains : ℕ) → (steam_of seed chains).label ≡ []
unfolding steam_of
steam_bare seed chains = refl

steam_sound : (seed chains : ℕ) → SoundUtility 12 (steam_of seed chains)
unfolding steam_of
steam_sound seed chains =
    let limit = taken-below seed (15 * chains) 9 (omega arith) in
    record {
      name = refl;
      label = inl refl;
      limits = refl;
      limit = All-from_recursion (λ n. n ≤ 1000000000) (replicate 12 (12 + number_at seed (15 * chains) 9)) (all_repeated 1000000000 (12 + number_at seed (15 * chains) 9) 12 (omega (arith, limit)));
      rate = omega arith;
      rates = inl refl;
      each_rate = λ k d within. absurd (omega arith);
    }

one_rate : (seed chains : ℕ) → (steam_of seed chains).rates ≡ []
unfolding steam_of
one_rate seed chains = refl

-- the parts of a plant that is made, by their counts
record IsMade (seed chains : ℕ) (plant : Plant) : Type 0 where
  periods : plant.periods ≡ 12
  calendar : plant.calendar ≡ None
  states : plant.states ≡ chained (states_of seed) chains
  utilities : plant.utilities ≡ steam_of seed chains ∷ []
  units : plant.units ≡ chained units_of 3
  tasks : plant.tasks ≡ chained (tasks_of seed) chains
  runs : plant.runs ≡ chained (runs_of seed) chains
  gaps : plant.gaps ≡ cond (nat_le 2 chains) (chained gaps_of 3) []
  receipts : plant.receipts ≡ []
  deliveries : plant.deliveries ≡ []
  outages : plant.outages ≡ []

is_made : (seed chains : ℕ) → IsMade seed chains (plant_made seed chains)
unfolding plant_made
is_made seed chains = record { periods = refl; calendar = refl; states = refl; utilities = refl; units = refl; tasks = refl; runs = refl; gaps = refl; receipts = refl; deliveries = refl; outages = refl }

gaps_few : (chains : ℕ) → length (cond (nat_le 2 chains) (chained gaps_of 3) []) ≤ 6
unfolding gaps_of
gaps_few chains = elim (cases_Bool (nat_le 2 chains)) [ inl e ↦ rw e (omega arith) | inr e ↦ rw e (omega arith) ]

module _ (seed chains : ℕ) (plant : Plant) (made : IsMade seed chains plant) (some : 1 ≤ chains) (most : chains ≤ 8) where
  states_long : length plant.states ≡ 3 * chains
  states_long = rw made.states (length-chained (states_of seed) 3 chains (three_states seed))

  tasks_long : length plant.tasks ≡ 2 * chains
  tasks_long = rw made.tasks (length-chained (tasks_of seed) 2 chains (two_tasks seed))

  runs_long : length plant.runs ≡ 2 * chains
  runs_long = rw made.runs (length-chained (runs_of seed) 2 chains (two_runs seed))

  units_long : length plant.units ≡ 3
  units_long = rw made.units (length-chained units_of 1 3 one_unit)

  utilities_long : length plant.utilities ≡ 1
  utilities_long = rw made.utilities refl

  gaps_all_short : AreShort plant.gaps
  gaps_all_short = rw made.gaps (where_second (λ (gap : Gap). gap.periods ≤ 1) chains (λ second. all_chained (λ (gap : Gap). gap.periods ≤ 1) gaps_of 3 (λ unit below. gaps_short unit)))

  counts : SoundCounts plant
  counts = record {
    periods = (omega (arith, made.periods), omega (arith, made.periods));
    states = omega (arith, states_long);
    utilities = omega (arith, utilities_long);
    units = omega (arith, units_long);
    tasks = omega (arith, tasks_long);
    runs = omega (arith, runs_long);
    gaps = rw made.gaps (omega (arith, gaps_few chains));
    receipts = rw made.receipts (omega arith);
    deliveries = rw made.deliveries (omega arith);
    outages = rw made.outages (omega arith);
    slots = omega (arith, few_slots plant made.periods (omega (arith, runs_long)));
    gap_pairs = omega (arith, few_pairs plant made.periods (omega (arith, runs_long)) gaps_all_short);
  }

  unlabelled : Unlabelled plant
  unlabelled = record {
    calendar = made.calendar;
    states = rw made.states (All-from_recursion (λ (state : State). state.label ≡ []) _ (all_chained (λ (state : State). state.label ≡ []) (states_of seed) chains (λ chain below. states_bare seed chain)));
    utilities = rw made.utilities (all_of_one (λ (utility : Utility). utility.label ≡ []) _ (steam_bare seed chains));
    units = rw made.units (All-from_recursion (λ (unit : StnUnit). unit.label ≡ []) _ (all_chained (λ (unit : StnUnit). unit.label ≡ []) units_of 3 (λ unit below. units_bare unit)));
    tasks = rw made.tasks (All-from_recursion (λ (task : Task). task.label ≡ []) _ (all_chained (λ (task : Task). task.label ≡ []) (tasks_of seed) chains (λ chain below. tasks_bare seed chain)));
    colours = rw made.tasks (All-from_recursion (λ (task : Task). task.colour ≡ []) _ (all_chained (λ (task : Task). task.colour ≡ []) (tasks_of seed) chains (λ chain below. tasks_grey seed chain)));
  }

  small : SmallCounts plant
  small = record {
    states = omega (arith, states_long);
    utilities = omega (arith, utilities_long);
    units = omega (arith, units_long);
    tasks = omega (arith, tasks_long);
    runs = omega (arith, runs_long);
    receipts = rw made.receipts (omega arith);
    deliveries = rw made.deliveries (omega arith);
    outages = rw made.outages (omega arith);
    slots = few_slots plant made.periods (omega (arith, runs_long));
    gap_pairs = few_pairs plant made.periods (omega (arith, runs_long)) gaps_all_short;
    rates = rw made.utilities (all_of_one (λ (utility : Utility). utility.rates ≡ []) _ (one_rate seed chains));
    gaps = All-from_recursion (λ (gap : Gap). gap.periods ≤ 96) _ (all_so (λ (gap : Gap). gap.periods ≤ 1) (λ (gap : Gap). gap.periods ≤ 96) (λ gap short. omega arith) plant.gaps gaps_all_short);
    lasts = rw made.units (All-from_recursion (λ (unit : StnUnit). unit.last ≡ None) _ (all_chained (λ (unit : StnUnit). unit.last ≡ None) units_of 3 units_fresh));
    unlabelled = unlabelled;
  }

  names : SoundNames plant
  names = record {
    states = rw made.states (apart (λ (state : State). state.name) bytes_eq texts_reflect (chained (states_of seed) chains) (state_names seed chains some most));
    utilities = rw made.utilities (λ i j d less within. absurd (omega arith));
    units = rw made.units (apart (λ (unit : StnUnit). unit.name) bytes_eq texts_reflect (chained units_of 3) unit_names);
    tasks = rw made.tasks (apart (λ (task : Task). task.name) bytes_eq texts_reflect (chained (tasks_of seed) chains) (task_names seed chains some most));
    runs = rw made.runs (λ i j d less within same. absurd (apart (λ (run : Run). run.task) eqb numbers_reflect (chained (runs_of seed) chains) (run_tasks seed chains some most) i j d less within same));
  }

  is_sound : Sound plant
  is_sound = record {
    counts = counts;
    calendar = subst (λ (calendar : Option Calendar). IfSome calendar SoundCalendar) (sym made.calendar) tt;
    small = λ is. small;
    names = names;
    states = rw (made.periods, made.states) (All-from_recursion (SoundState 12) _ (all_chained (SoundState 12) (states_of seed) chains (λ chain below. states_sound seed chain (omega arith))));
    utilities = rw (made.periods, made.utilities) (all_of_one (SoundUtility 12) _ (steam_sound seed chains));
    units = subst (All (SoundUnit plant)) (sym made.units) (All-from_recursion (SoundUnit plant) _ (all_chained (SoundUnit plant) units_of 3 (units_good plant)));
    tasks = subst (All (SoundTask plant)) (sym made.tasks) (All-from_recursion (SoundTask plant) _ (all_chained (SoundTask plant) (tasks_of seed) chains (λ chain below. tasks_sound plant seed chains chain states_long utilities_long below most)));
    runs = subst (All (SoundRun plant)) (sym made.runs) (All-from_recursion (SoundRun plant) _ (all_chained (SoundRun plant) (runs_of seed) chains (λ chain below. runs_sound plant seed chains chain tasks_long units_long below)));
    gaps = subst (All (SoundGap plant)) (sym made.gaps) (All-from_recursion (SoundGap plant) _ (where_second (SoundGap plant) chains (λ second. all_chained (SoundGap plant) gaps_of 3 (λ unit below. gaps_sound plant unit (omega (arith, tasks_long)) (omega (arith, units_long))))));
    receipts = rw made.receipts (λ k d within. absurd (omega arith));
    deliveries = rw made.deliveries (λ k d within. absurd (omega arith));
    outages = rw made.outages (λ k d within. absurd (omega arith));
  }

-- a plant that is made is sound
pub made_sound : (seed chains : ℕ) → 1 ≤ chains → chains ≤ 8 → Sound (plant_made seed chains)
made_sound seed chains some most = is_sound seed chains (plant_made seed chains) (is_made seed chains) some most
