-- The rolled plant is sound, where a plant file can say it.
use Rattle.std.proofs.Common.{◌≡◌, ◌≢◌, ℕ, zero, suc, ◌+◌, ◌-◌, ◌<◌, ◌≤◌, Bool, true, ltb, leb, List, [], ◌∷◌, length, filter, get_or, drop, refl, sym, subst, inl, inr, arith, All, AllPairs, unsigned_abs, Option, Some, None}
use Rattle.std.specs.Prelude.{ℤ, pos, negsuc, ◌-ℤ◌, ◌≤ℤ◌, IfSome, option_map, int_le, replicate, ◌/◌, ◌%◌, ◌==◌}
use Rattle.std.proofs.lemmas.Int.{ints}
use Rattle.std.proofs.lemmas.Bool.{ltb-true, cases_eq, cases_Bool, cond-true, cond-false, eq-eqb, ne_eqb, true≢false}
use Rattle.std.proofs.lemmas.Nat.{mod_below}
use Rattle.std.proofs.lemmas.List.{length-map, length-drop, drop_all}
use Rattle.std.proofs.lemmas.List.Elements.{All-map, All-filter, All-drop, All-append, All-nil, All-cons, All-replicate, filter_passes}
use Rattle.std.proofs.lemmas.List.Sums.{length-filter, count_by-le-length}
use Rattle.stn_model.specs.declared.plant.Plant.{Plant}
use Rattle.stn_model.specs.declared.plant.State.{State}
use Rattle.stn_model.specs.declared.plant.Utility.{Utility}
use Rattle.stn_model.specs.declared.plant.StnUnit.{StnUnit}
use Rattle.stn_model.specs.declared.plant.Last.{Last}
use Rattle.stn_model.specs.declared.plant.Task.{Task}
use Rattle.stn_model.specs.declared.plant.Run.{Run}
use Rattle.stn_model.specs.declared.plant.Gap.{Gap}
use Rattle.stn_model.specs.declared.plant.Receipt.{Receipt}
use Rattle.stn_model.specs.declared.plant.Delivery.{Delivery}
use Rattle.stn_model.specs.declared.plant.Outage.{Outage}
use Rattle.stn_model.specs.declared.start.Start.{Start}
use Rattle.stn_model.specs.Plant.{unit_at, no_unit, duration_of}
use Rattle.stn_model.specs.Fits.{Fits}
use Rattle.stn_model.specs.Load.{load}
use Rattle.stn_model.specs.Sound.{Sound, SoundState, SoundUtility, SoundUnit, SoundLast, SoundInput, SoundOutput, SoundDraw, SoundTask, SoundRun, SoundGap, SoundReceipt, SoundDelivery, SoundOutage, SoundCounts, SoundNames}
use Rattle.stn_model.proofs.Fitting.{placed-Fits, fit_parts}
use Rattle.plant_copies.proofs.Alike.{All-each}
use Rattle.rolled_plant.specs.Lists.{map_from, listed_below}
use Rattle.rolled_plant.specs.Kept.{IsMendable}
use Rattle.rolled_plant.specs.Begin.{latest, is_latest, last_after, last_behind, seen_from, last_seen}
use Rattle.rolled_plant.specs.Receipts.{coming, one_receipt, some_receipt, receipts_of, receipts_at, receipts_from, AreFew}
use Rattle.rolled_plant.specs.FitsFile.{FitsFile}
use Rattle.rolled_plant.specs.RolledPlant.{rolled_plant, rolled_state, rolled_utility, rolled_unit, sooner_delivery, deliveries_from, sooner_outage, outages_from}
use Rattle.rolled_plant.proofs.Basics.{length-map_from, get_or-map_from}
use Rattle.rolled_plant.proofs.Dated.{calendar-sound}
use Rattle.rolled_plant.proofs.Joined.{found_at}
use Rattle.rolled_plant.proofs.Fewer.{fewer_slots, fewer_pairs}

length-filter-le : {X : Type 0} (p : X → Bool) (xs : List X) → length (filter p xs) ≤ length xs
length-filter-le p xs = omega (arith, length-filter p xs, count_by-le-length p xs)

-- of nothing nothing is left
drop-none : {X : Type 0} (count : ℕ) (xs : List X) → xs ≡ [] → drop count xs ≡ []
drop-none count xs none = rw none (drop_all count [] (omega arith))

-- what holds of each item with its number holds of all
All-map_from : {X Y : Type 0} (P : Y → Type 0) (f : ℕ → X → Y) (n : ℕ) (xs : List X) → ((k : ℕ) (d : X) → k < length xs → P (f (n + k) (get_or xs k d))) → All P (map_from f n xs)
All-map_from P f n [] each k d l = absurd (omega arith)
All-map_from P f n (x ∷ xs) each k d l =
    let inside : k < length (x ∷ xs) = omega (arith, l, length-map_from f n (x ∷ xs)) in
    subst P (sym (get_or-map_from f n (x ∷ xs) k x d inside)) (each k x inside)

AllPairs-map_from : {X Y : Type 0} (R : X → X → Type 0) (S : Y → Y → Type 0) (f : ℕ → X → Y) (n : ℕ) (xs : List X) → ((i j : ℕ) (a b : X) → R a b → S (f i a) (f j b)) → AllPairs R xs → AllPairs S (map_from f n xs)
AllPairs-map_from R S f n [] keeps all i j d less within = absurd (omega arith)
AllPairs-map_from {Y = Y} R S f n (x ∷ xs) keeps all i j d less within =
    let second : j < length (x ∷ xs) = omega (arith, within, length-map_from f n (x ∷ xs)) in
    let first : i < length (x ∷ xs) = omega arith in
    subst (λ (a : Y). S a (get_or (map_from f n (x ∷ xs)) j d)) (sym (get_or-map_from f n (x ∷ xs) i x d first))
    (subst (S (f (n + i) (get_or (x ∷ xs) i x))) (sym (get_or-map_from f n (x ∷ xs) j x d second)) (keeps (n + i) (n + j) (get_or (x ∷ xs) i x) (get_or (x ∷ xs) j x) (all i j x less second)))

All-listed_below : {X : Type 0} (P : X → Type 0) (f : ℕ → List X) (n : ℕ) → ((k : ℕ) → k < n → All P (f k)) → All P (listed_below f n)
All-listed_below P f zero each = All-nil P
All-listed_below P f (suc n) each = All-append P (listed_below f n) (f n) (All-listed_below P f n (λ k l. each k (omega arith))) (each n (omega arith))

-- ---- states and utilities

state_sound : (plant : Plant) (before : List Start) (period number : ℕ) (state : State) → period ≤ plant.periods → SoundState plant.periods state → SoundState (plant.periods - period) (rolled_state plant before period number state)
state_sound plant before period number state less sound = record {
  name = sound.name;
  label = sound.label;
  initial = omega arith;
  limits = elim sound.limits [
    | inl e ↦ inl (drop-none period state.limits e)
    | inr e ↦ inr (omega (arith, e, length-drop period state.limits))
  ];
  limit = All-drop (λ limit. limit ≤ 1000000000) period state.limits sound.limit;
  price = sound.price;
  holding = sound.holding;
}

utility_sound : (plant : Plant) (before : List Start) (period number : ℕ) (utility : Utility) → period ≤ plant.periods → SoundUtility plant.periods utility → SoundUtility (plant.periods - period) (rolled_utility plant before period number utility)
utility_sound plant before period number utility less sound =
    let left = λ (time limit : ℕ). limit - load plant before number time in
    let long = sound.limits in
    record {
      name = sound.name;
      label = sound.label;
      limits = omega (arith, length-map_from left period (drop period utility.limits), length-drop period utility.limits, long);
      limit = All-map_from (λ limit. limit ≤ 1000000000) left period (drop period utility.limits)
          (λ k d l. let most = All-drop (λ limit. limit ≤ 1000000000) period utility.limits sound.limit k d l in omega arith);
      rate = sound.rate;
      rates = elim sound.rates [
        | inl e ↦ inl (drop-none period utility.rates e)
        | inr both ↦ inr (omega (arith, both.0, length-drop period utility.rates), both.1)
      ];
      each_rate = All-drop (λ rate. unsigned_abs rate ≤ 1000000) period utility.rates sound.each_rate;
    }

-- ---- units

module _ (plant : Plant) (before : List Start) (period : ℕ) (sound : Sound plant) (within : period < plant.periods) (on : IsMendable plant before period) where
  -- the time of a batch that ends by the horizon, as it is seen
  seen_early : (time : ℤ) → negsuc 335 ≤ℤ seen_from period time
  seen_early time =
      elim (cases_Bool (int_le (negsuc 335) (time -ℤ pos period))) [
        | inl t ↦ subst (λ (z : ℤ). negsuc 335 ≤ℤ z) (sym (cond-true {A = ℤ} (int_le (negsuc 335) (time -ℤ pos period)) (time -ℤ pos period) (negsuc 335) t)) (at_most (negsuc 335) (time -ℤ pos period) t)
        | inr f ↦ subst (λ (z : ℤ). negsuc 335 ≤ℤ z) (sym (cond-false {A = ℤ} (int_le (negsuc 335) (time -ℤ pos period)) (time -ℤ pos period) (negsuc 335) f)) (omega (arith, ints))
      ]
    where
      at_most : (a b : ℤ) → int_le a b ≡ true → a ≤ℤ b
      at_most a b e = grind (arith, ints)

  seen_late : (time : ℤ) → time ≤ℤ pos plant.periods → seen_from period time ≤ℤ pos (plant.periods - period)
  seen_late time late =
      elim (cases_Bool (int_le (negsuc 335) (time -ℤ pos period))) [
        | inl t ↦ subst (λ (z : ℤ). z ≤ℤ pos (plant.periods - period)) (sym (cond-true {A = ℤ} (int_le (negsuc 335) (time -ℤ pos period)) (time -ℤ pos period) (negsuc 335) t)) (omega (arith, ints, late))
        | inr f ↦ subst (λ (z : ℤ). z ≤ℤ pos (plant.periods - period)) (sym (cond-false {A = ℤ} (int_le (negsuc 335) (time -ℤ pos period)) (time -ℤ pos period) (negsuc 335) f)) (omega (arith, ints))
      ]

  last_sound : (o : Option Last) → IfSome o (λ last. (last.task < length plant.tasks) × (last.until ≤ℤ pos plant.periods)) → IfSome (option_map (last_seen period) o) (SoundLast (rolled_plant plant before period))
  unfolding rolled_plant
  last_sound None is = tt
  last_sound (Some last) is = record { task = is.0; early = seen_early last.until; late = seen_late last.until is.1 }

  -- the batch that holds a unit last is of a task that is there, and ends by the horizon
  held_sound : (o : Option Start) (own : Option Last) (unit : ℕ) → latest before unit ≡ o → IfSome own (SoundLast plant) → IfSome (last_after plant o own) (λ last. (last.task < length plant.tasks) × (last.until ≤ℤ pos plant.periods))
  unfolding latest
  held_sound None None unit is own = tt
  held_sound None (Some last) unit is own = (own.task, own.late)
  held_sound (Some a) own unit is sound_own =
      let found = found_at (is_latest before unit) before a is in
      let fits = subst (Fits plant) found.2 (on.fits found.0 a found.1) in
      let ends = (fit_parts plant a fits).ends in
      ((placed-Fits plant a sound fits).task, omega (arith, ints, ends))

  unit_sound : (number : ℕ) (d : StnUnit) → number < length plant.units → SoundUnit (rolled_plant plant before period) (rolled_unit plant before period number (get_or plant.units number d))
  unfolding last_behind
  unit_sound number d there = record {
    name = (sound.units number d there).name;
    label = (sound.units number d there).label;
    last = last_sound (last_after plant (latest before number) (unit_at plant number).last) (held_sound (latest before number) (unit_at plant number).last number refl (sound.units number no_unit there).last);
  }

  -- ---- what comes and goes

  states_are : length (rolled_plant plant before period).states ≡ length plant.states
  unfolding rolled_plant
  states_are = length-map_from (rolled_state plant before period) 0 plant.states

  periods_are : (rolled_plant plant before period).periods ≡ plant.periods - period
  unfolding rolled_plant
  periods_are = refl

  receipts_of_sound : (state time amount : ℕ) → state < length plant.states → time ≤ plant.periods - period → All (SoundReceipt (rolled_plant plant before period)) (receipts_of state time amount)
  unfolding receipts_of
  receipts_of_sound state time amount there inside =
      let s : state < length (rolled_plant plant before period).states = omega (arith, there, states_are) in
      let t : time ≤ (rolled_plant plant before period).periods = omega (arith, inside, periods_are) in
      All-append (SoundReceipt (rolled_plant plant before period)) (replicate (amount / 1000000000) (one_receipt state time 1000000000)) (some_receipt state time (amount % 1000000000))
      (All-replicate (SoundReceipt (rolled_plant plant before period)) (amount / 1000000000) (one_receipt state time 1000000000) (record { state = s; time = t; amount = (omega arith, omega arith) }))
      (rest (amount % 1000000000) (mod_below amount 1000000000 (omega arith)) s t)
    where
      rest : (amount : ℕ) → amount < 1000000000 → state < length (rolled_plant plant before period).states → time ≤ (rolled_plant plant before period).periods → All (SoundReceipt (rolled_plant plant before period)) (some_receipt state time amount)
      rest amount small s t =
          elim (cases_eq amount 0) [
            | inl e ↦ subst (All (SoundReceipt (rolled_plant plant before period))) (sym (cond-true {A = List Receipt} (amount == 0) [] (one_receipt state time amount ∷ []) (eq-eqb amount 0 e))) (All-nil (SoundReceipt (rolled_plant plant before period)))
            | inr other ↦ subst (All (SoundReceipt (rolled_plant plant before period))) (sym (cond-false {A = List Receipt} (amount == 0) [] (one_receipt state time amount ∷ []) (ne_eqb amount 0 other)))
                (All-cons (SoundReceipt (rolled_plant plant before period)) (one_receipt state time amount) [] (record { state = s; time = t; amount = (omega arith, omega arith) }) (All-nil (SoundReceipt (rolled_plant plant before period))))
          ]

  receipts_sound : All (SoundReceipt (rolled_plant plant before period)) (receipts_from plant before period)
  unfolding receipts_from receipts_at
  receipts_sound =
      All-listed_below (SoundReceipt (rolled_plant plant before period)) (receipts_at plant before period) (suc (plant.periods - period))
      (λ time inside. All-listed_below (SoundReceipt (rolled_plant plant before period)) (λ state. receipts_of state time (coming plant before period state time)) (length plant.states)
      (λ state there. receipts_of_sound state time (coming plant before period state time) there (omega arith)))

  deliveries_sound : All (SoundDelivery (rolled_plant plant before period)) (deliveries_from period plant.deliveries)
  deliveries_sound =
      let late = λ (delivery : Delivery). leb period delivery.time in
      All-map (SoundDelivery (rolled_plant plant before period)) (sooner_delivery period) (filter late plant.deliveries)
      (λ k d l.
      let is = All-filter late (SoundDelivery plant) plant.deliveries sound.deliveries k d l in
      record {
        state = omega (arith, states_are, is.state);
        time = (let time = is.time in omega (arith, periods_are, time));
        amount = is.amount;
        payment = is.payment;
      })

  outages_sound : All (SoundOutage (rolled_plant plant before period)) (outages_from period plant.outages)
  unfolding rolled_plant
  outages_sound =
      let late = λ (outage : Outage). ltb period outage.to in
      All-map (SoundOutage (rolled_plant plant before period)) (sooner_outage period) (filter late plant.outages)
      (λ k d l.
      let is = All-filter late (SoundOutage plant) plant.outages sound.outages k d l in
      let some = is.some in
      let ends = is.to in
      let after = ltb-true period (get_or (filter late plant.outages) k d).to (filter_passes late plant.outages k d l) in
      record { unit = omega (arith, is.unit, length-map_from (rolled_unit plant before period) 0 plant.units); some = omega arith; to = omega arith })

  -- ---- the whole

  deliveries_few : length (deliveries_from period plant.deliveries) ≤ 900
  deliveries_few =
      let late = λ (delivery : Delivery). leb period delivery.time in
      omega (arith, length-map (filter late plant.deliveries) (sooner_delivery period), length-filter-le late plant.deliveries, sound.counts.deliveries)

  outages_few : length (outages_from period plant.outages) ≤ 4096
  outages_few =
      let late = λ (outage : Outage). ltb period outage.to in
      omega (arith, length-map (filter late plant.outages) (sooner_outage period), length-filter-le late plant.outages, sound.counts.outages)

  counts_sound : AreFew plant before period → SoundCounts (rolled_plant plant before period)
  unfolding rolled_plant
  counts_sound few =
      let counts = sound.counts in
      let most = counts.periods.1 in
      record {
        periods = (omega arith, omega arith);
        states = omega (arith, length-map_from (rolled_state plant before period) 0 plant.states, counts.states);
        utilities = omega (arith, length-map_from (rolled_utility plant before period) 0 plant.utilities, counts.utilities);
        units = omega (arith, length-map_from (rolled_unit plant before period) 0 plant.units, counts.units);
        tasks = counts.tasks;
        runs = counts.runs;
        gaps = counts.gaps;
        receipts = few;
        deliveries = deliveries_few;
        outages = outages_few;
        slots = omega (arith, fewer_slots plant before period sound within, counts.slots);
        gap_pairs = omega (arith, fewer_pairs plant before period sound within, counts.gap_pairs);
      }

  names_sound : SoundNames (rolled_plant plant before period)
  unfolding rolled_plant
  names_sound = record {
    states = AllPairs-map_from (λ (a b : State). a.name ≢ b.name) (λ (a b : State). a.name ≢ b.name) (rolled_state plant before period) 0 plant.states (λ i j a b differ. differ) sound.names.states;
    utilities = AllPairs-map_from (λ (a b : Utility). a.name ≢ b.name) (λ (a b : Utility). a.name ≢ b.name) (rolled_utility plant before period) 0 plant.utilities (λ i j a b differ. differ) sound.names.utilities;
    units = AllPairs-map_from (λ (a b : StnUnit). a.name ≢ b.name) (λ (a b : StnUnit). a.name ≢ b.name) (rolled_unit plant before period) 0 plant.units (λ i j a b differ. differ) sound.names.units;
    tasks = sound.names.tasks;
    runs = sound.names.runs;
  }

  task_here : (task : Task) → SoundTask plant task → SoundTask (rolled_plant plant before period) task
  unfolding rolled_plant
  task_here task is =
      let states = length-map_from (rolled_state plant before period) 0 plant.states in
      let utilities = length-map_from (rolled_utility plant before period) 0 plant.utilities in
      record {
        name = is.name;
        label = is.label;
        colour = is.colour;
        quantum = is.quantum;
        inputs = is.inputs;
        outputs = is.outputs;
        draws = is.draws;
        input = All-each (SoundInput plant task.quantum) (SoundInput (rolled_plant plant before period) task.quantum) task.inputs
            (λ input own. record { state = omega (arith, states, own.state); part = own.part }) is.input;
        output = All-each (SoundOutput plant task.quantum) (SoundOutput (rolled_plant plant before period) task.quantum) task.outputs
            (λ output own. record { state = omega (arith, states, own.state); part = own.part; delay = own.delay }) is.output;
        draw = All-each (SoundDraw plant (duration_of task)) (SoundDraw (rolled_plant plant before period) (duration_of task)) task.draws
            (λ draw own. record { utility = omega (arith, utilities, own.utility); fixed = own.fixed; each = own.each; fixed_small = own.fixed_small; each_small = own.each_small }) is.draw;
        taken = is.taken;
        given = is.given;
      }

  run_here : (run : Run) → SoundRun plant run → SoundRun (rolled_plant plant before period) run
  unfolding rolled_plant
  run_here run is = record {
    task = is.task;
    unit = omega (arith, length-map_from (rolled_unit plant before period) 0 plant.units, is.unit);
    least = is.least;
    range = is.range;
    most = is.most;
    cost = is.cost;
  }

  gap_here : (gap : Gap) → SoundGap plant gap → SoundGap (rolled_plant plant before period) gap
  unfolding rolled_plant
  gap_here gap is = record {
    unit = omega (arith, length-map_from (rolled_unit plant before period) 0 plant.units, is.unit);
    from = is.from;
    to = is.to;
    periods = is.periods;
    cost = is.cost;
  }

  numbered : (k : ℕ) (d : StnUnit) → k < length plant.units → SoundUnit (rolled_plant plant before period) (rolled_unit plant before period (0 + k) (get_or plant.units k d))
  numbered k d l =
      let same : k ≡ 0 + k = omega arith in
      subst (λ (n : ℕ). SoundUnit (rolled_plant plant before period) (rolled_unit plant before period n (get_or plant.units k d))) same (unit_sound k d l)

  -- the rolled plant is sound
  pub rolled_sound : FitsFile plant before period → Sound (rolled_plant plant before period)
  unfolding rolled_plant
  rolled_sound fits = record {
    counts = counts_sound fits.few;
    calendar = calendar-sound period plant.calendar sound.calendar fits.in_time;
    small = λ not_large. absurd (true≢false not_large);
    names = names_sound;
    states = All-map_from (SoundState (plant.periods - period)) (rolled_state plant before period) 0 plant.states
        (λ k d l. state_sound plant before period (0 + k) (get_or plant.states k d) (omega arith) (sound.states k d l));
    utilities = All-map_from (SoundUtility (plant.periods - period)) (rolled_utility plant before period) 0 plant.utilities
        (λ k d l. utility_sound plant before period (0 + k) (get_or plant.utilities k d) (omega arith) (sound.utilities k d l));
    units = All-map_from (SoundUnit (rolled_plant plant before period)) (rolled_unit plant before period) 0 plant.units
        (λ k d l. numbered k d l);
    tasks = All-each (SoundTask plant) (SoundTask (rolled_plant plant before period)) plant.tasks task_here sound.tasks;
    runs = All-each (SoundRun plant) (SoundRun (rolled_plant plant before period)) plant.runs run_here sound.runs;
    gaps = All-each (SoundGap plant) (SoundGap (rolled_plant plant before period)) plant.gaps gap_here sound.gaps;
    receipts = receipts_sound;
    deliveries = deliveries_sound;
    outages = outages_sound;
  }
