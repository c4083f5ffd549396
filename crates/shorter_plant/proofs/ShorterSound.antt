-- The plant within a shorter horizon is sound.
use Rattle.std.proofs.Common.{◌≡◌, ◌≢◌, ℕ, ◌+◌, ◌<◌, ◌≤◌, Bool, ltb, leb, List, [], length, map, filter, get_or, take, Option, Some, None, option_map, refl, inl, inr, arith, All, AllPairs, unsigned_abs}
use Rattle.std.specs.Prelude.{IfSome}
use Rattle.std.proofs.lemmas.Bool.{leb-true, ltb-true}
use Rattle.std.proofs.lemmas.Int.{ints, clamps}
use Rattle.std.proofs.lemmas.List.{length-map, length-take-le, get_or-map, take_all}
use Rattle.std.proofs.lemmas.List.Elements.{All-map, All-filter, All-take, filter_passes}
use Rattle.std.proofs.lemmas.List.Sums.{length-filter, count_by-le-length}
use Rattle.stn_model.specs.declared.plant.Plant.{Plant}
use Rattle.stn_model.specs.declared.plant.State.{State}
use Rattle.stn_model.specs.declared.plant.Utility.{Utility}
use Rattle.stn_model.specs.declared.plant.StnUnit.{StnUnit}
use Rattle.stn_model.specs.declared.plant.Last.{Last}
use Rattle.stn_model.specs.declared.plant.Receipt.{Receipt}
use Rattle.stn_model.specs.declared.plant.Delivery.{Delivery}
use Rattle.stn_model.specs.declared.plant.Outage.{Outage}
use Rattle.stn_model.specs.Sound.{Within, Sound, SoundState, SoundUtility, SoundLast, SoundUnit, SoundTask, SoundRun, SoundGap, SoundReceipt, SoundDelivery, SoundOutage, SoundCounts, SmallCounts, SoundNames}
use Rattle.plant_copies.proofs.Alike.{All-each, AreAlike, task_sound, run_sound, gap_sound}
use Rattle.shorter_plant.specs.PlantAt.{plant_at, state_until, utility_until, last_until, unit_until, receipts_until, delivered_at, outage_until, outages_until}
use Rattle.shorter_plant.proofs.Longer.{fewer_slots, fewer_pairs}

AllPairs-map : {X : Type 0} (R : X → X → Type 0) (f : X → X) (xs : List X) → ((a b : X) → R a b → R (f a) (f b)) → AllPairs R xs → AllPairs R (map f xs)
AllPairs-map R f xs keeps all = λ i j d less within.
    let second : j < length xs = omega (arith, length-map xs f) in
    let first : i < length xs = omega arith in
    rw (get_or-map f xs i d d first, get_or-map f xs j d d second) (keeps (get_or xs i d) (get_or xs j d) (all i j d less second))

length-filter-le : {X : Type 0} (p : X → Bool) (xs : List X) → length (filter p xs) ≤ length xs
length-filter-le p xs = omega (arith, length-filter p xs, count_by-le-length p xs)

-- of nothing nothing is left
take-none : {X : Type 0} (count : ℕ) (xs : List X) → xs ≡ [] → take count xs ≡ []
take-none count xs none = rw none (take_all count [] (omega arith))

state_sound : (periods horizon : ℕ) (state : State) → horizon ≤ periods → SoundState periods state → SoundState horizon (state_until horizon state)
state_sound periods horizon state less sound = record {
  name = sound.name;
  label = sound.label;
  initial = sound.initial;
  limits = elim sound.limits [
    | inl e ↦ inl (take-none (horizon + 1) state.limits e)
    | inr e ↦ inr (let long = length-take-le (horizon + 1) state.limits (omega arith) in omega arith)
  ];
  limit = All-take (λ limit. limit ≤ 1000000000) (horizon + 1) state.limits sound.limit;
  price = sound.price;
  holding = sound.holding;
}

utility_sound : (periods horizon : ℕ) (utility : Utility) → horizon ≤ periods → SoundUtility periods utility → SoundUtility horizon (utility_until horizon utility)
utility_sound periods horizon utility less sound = record {
  name = sound.name;
  label = sound.label;
  limits = let long = sound.limits in length-take-le horizon utility.limits (omega arith);
  limit = All-take (λ limit. limit ≤ 1000000000) horizon utility.limits sound.limit;
  rate = sound.rate;
  rates = elim sound.rates [
    | inl e ↦ inl (take-none horizon utility.rates e)
    | inr both ↦ inr (let long = both.0 in length-take-le horizon utility.rates (omega arith), both.1)
  ];
  each_rate = All-take (λ rate. unsigned_abs rate ≤ 1000000) horizon utility.rates sound.each_rate;
}

last_sound : (plant : Plant) (horizon : ℕ) (last : Last) → horizon ≤ plant.periods → SoundLast plant last → SoundLast (plant_at plant horizon) (last_until horizon last)
unfolding plant_at
last_sound plant horizon last less sound =
    let early = sound.early in
    record { task = sound.task; early = omega (arith, ints, clamps); late = omega (arith, ints, clamps) }

held_sound : (plant : Plant) (horizon : ℕ) (last : Option Last) → horizon ≤ plant.periods → IfSome last (SoundLast plant) → IfSome (option_map (last_until horizon) last) (SoundLast (plant_at plant horizon))
held_sound plant horizon None less sound = tt
held_sound plant horizon (Some last) less sound = last_sound plant horizon last less sound

unit_sound : (plant : Plant) (horizon : ℕ) (unit : StnUnit) → horizon ≤ plant.periods → SoundUnit plant unit → SoundUnit (plant_at plant horizon) (unit_until horizon unit)
unit_sound plant horizon unit less sound = record { name = sound.name; label = sound.label; last = held_sound plant horizon unit.last less sound.last }

-- a unit that no batch held before is held by none within the horizon
still_free : (horizon : ℕ) (unit : StnUnit) → unit.last ≡ None → option_map (last_until horizon) unit.last ≡ None
still_free horizon unit none = rw none refl

alike : (plant : Plant) (horizon : ℕ) → AreAlike (plant_at plant horizon) plant
unfolding plant_at
alike plant horizon = record { states = length-map plant.states (state_until horizon); utilities = length-map plant.utilities (utility_until horizon); units = length-map plant.units (unit_until horizon); tasks = refl }

receipts_sound : (plant : Plant) (horizon : ℕ) (receipts : List Receipt) → All (SoundReceipt plant) receipts → All (SoundReceipt (plant_at plant horizon)) (receipts_until horizon receipts)
unfolding plant_at
receipts_sound plant horizon receipts sound = λ k d within.
    let same = alike plant horizon in
    let kept = All-filter (λ (receipt : Receipt). leb receipt.time horizon) (SoundReceipt plant) receipts sound k d within in
    let early = leb-true _ _ (filter_passes (λ (receipt : Receipt). leb receipt.time horizon) receipts k d within) in
    record { state = omega (arith, same.states, kept.state); time = early; amount = kept.amount }

delivery_sound : (plant : Plant) (horizon : ℕ) (delivery : Delivery) → SoundDelivery plant delivery → SoundDelivery (plant_at plant horizon) (delivered_at horizon delivery)
unfolding plant_at
delivery_sound plant horizon delivery sound = record { state = omega (arith, length-map plant.states (state_until horizon), sound.state); time = omega arith; amount = sound.amount; payment = sound.payment }

outage_sound : (plant : Plant) (horizon : ℕ) (outage : Outage) → outage.from < horizon → SoundOutage plant outage → SoundOutage (plant_at plant horizon) (outage_until horizon outage)
unfolding plant_at
outage_sound plant horizon outage early sound = record { unit = omega (arith, length-map plant.units (unit_until horizon), sound.unit); some = omega (arith, sound.some); to = omega arith }

outages_sound : (plant : Plant) (horizon : ℕ) (outages : List Outage) → All (SoundOutage plant) outages → All (SoundOutage (plant_at plant horizon)) (outages_until horizon outages)
outages_sound plant horizon outages sound =
    let kept = filter (λ (outage : Outage). ltb outage.from horizon) outages in
    All-map (SoundOutage (plant_at plant horizon)) (outage_until horizon) kept (λ k d within.
    outage_sound plant horizon (get_or kept k d)
    (ltb-true _ _ (filter_passes (λ (outage : Outage). ltb outage.from horizon) outages k d within))
    (All-filter (λ (outage : Outage). ltb outage.from horizon) (SoundOutage plant) outages sound k d within))

-- there are no more receipts, and no more outages
fewer_receipts : (horizon : ℕ) (receipts : List Receipt) → length (receipts_until horizon receipts) ≤ length receipts
fewer_receipts horizon receipts = length-filter-le (λ (receipt : Receipt). leb receipt.time horizon) receipts

fewer_outages : (horizon : ℕ) (outages : List Outage) → length (outages_until horizon outages) ≤ length outages
fewer_outages horizon outages =
    let early = filter (λ (outage : Outage). ltb outage.from horizon) outages in
    omega (arith, length-map early (outage_until horizon), length-filter-le (λ (outage : Outage). ltb outage.from horizon) outages)

counts_sound : (plant : Plant) (horizon : ℕ) → Sound plant → Within 1 plant.periods horizon → SoundCounts (plant_at plant horizon)
unfolding plant_at
counts_sound plant horizon sound within =
    let counts = sound.counts in
    record {
      periods = (within.0, omega (arith, within.1, counts.periods.1));
      states = omega (arith, length-map plant.states (state_until horizon), counts.states);
      utilities = omega (arith, length-map plant.utilities (utility_until horizon), counts.utilities);
      units = omega (arith, length-map plant.units (unit_until horizon), counts.units);
      tasks = counts.tasks;
      runs = counts.runs;
      gaps = counts.gaps;
      receipts = omega (arith, fewer_receipts horizon plant.receipts, counts.receipts);
      deliveries = omega (arith, length-map plant.deliveries (delivered_at horizon), counts.deliveries);
      outages = omega (arith, fewer_outages horizon plant.outages, counts.outages);
      slots = omega (arith, fewer_slots plant horizon sound within.1, counts.slots);
      gap_pairs = omega (arith, fewer_pairs plant horizon sound within.1, counts.gap_pairs);
    }

-- a plant that is small is small within the horizon too
small_sound : (plant : Plant) (horizon : ℕ) → Sound plant → horizon ≤ plant.periods → SmallCounts plant → SmallCounts (plant_at plant horizon)
unfolding plant_at
small_sound plant horizon sound less counts = record {
  states = omega (arith, length-map plant.states (state_until horizon), counts.states);
  utilities = omega (arith, length-map plant.utilities (utility_until horizon), counts.utilities);
  units = omega (arith, length-map plant.units (unit_until horizon), counts.units);
  tasks = counts.tasks;
  runs = counts.runs;
  receipts = omega (arith, fewer_receipts horizon plant.receipts, counts.receipts);
  deliveries = omega (arith, length-map plant.deliveries (delivered_at horizon), counts.deliveries);
  outages = omega (arith, fewer_outages horizon plant.outages, counts.outages);
  slots = omega (arith, fewer_slots plant horizon sound less, counts.slots);
  gap_pairs = omega (arith, fewer_pairs plant horizon sound less, counts.gap_pairs);
  rates = All-map (λ (utility : Utility). utility.rates ≡ []) (utility_until horizon) plant.utilities (All-each (λ (utility : Utility). utility.rates ≡ []) (λ utility. take horizon utility.rates ≡ []) plant.utilities (λ utility none. take-none horizon utility.rates none) counts.rates);
  gaps = counts.gaps;
  lasts = All-map (λ (unit : StnUnit). unit.last ≡ None) (unit_until horizon) plant.units (All-each (λ (unit : StnUnit). unit.last ≡ None) (λ unit. option_map (last_until horizon) unit.last ≡ None) plant.units (still_free horizon) counts.lasts);
  unlabelled = record {
    calendar = counts.unlabelled.calendar;
    states = All-map (λ (state : State). state.label ≡ []) (state_until horizon) plant.states counts.unlabelled.states;
    utilities = All-map (λ (utility : Utility). utility.label ≡ []) (utility_until horizon) plant.utilities counts.unlabelled.utilities;
    units = All-map (λ (unit : StnUnit). unit.label ≡ []) (unit_until horizon) plant.units counts.unlabelled.units;
    tasks = counts.unlabelled.tasks;
    colours = counts.unlabelled.colours;
  };
}

names_sound : (plant : Plant) (horizon : ℕ) → SoundNames plant → SoundNames (plant_at plant horizon)
unfolding plant_at
names_sound plant horizon names = record {
  states = AllPairs-map (λ (a b : State). a.name ≢ b.name) (state_until horizon) plant.states (λ a b differ. differ) names.states;
  utilities = AllPairs-map (λ (a b : Utility). a.name ≢ b.name) (utility_until horizon) plant.utilities (λ a b differ. differ) names.utilities;
  units = AllPairs-map (λ (a b : StnUnit). a.name ≢ b.name) (unit_until horizon) plant.units (λ a b differ. differ) names.units;
  tasks = names.tasks;
  runs = names.runs;
}

-- the plant within a shorter horizon is sound
pub shorter_sound : (plant : Plant) (horizon : ℕ) → Sound plant → Within 1 plant.periods horizon → Sound (plant_at plant horizon)
unfolding plant_at
shorter_sound plant horizon sound within =
    let short = plant_at plant horizon in
    let same = alike plant horizon in
    record {
      counts = counts_sound plant horizon sound within;
      calendar = sound.calendar;
      small = λ few. small_sound plant horizon sound within.1 (sound.small few);
      names = names_sound plant horizon sound.names;
      states = All-map (SoundState horizon) (state_until horizon) plant.states (All-each (SoundState plant.periods) (λ state. SoundState horizon (state_until horizon state)) plant.states (λ state. state_sound plant.periods horizon state within.1) sound.states);
      utilities = All-map (SoundUtility horizon) (utility_until horizon) plant.utilities (All-each (SoundUtility plant.periods) (λ utility. SoundUtility horizon (utility_until horizon utility)) plant.utilities (λ utility. utility_sound plant.periods horizon utility within.1) sound.utilities);
      units = All-map (SoundUnit short) (unit_until horizon) plant.units (All-each (SoundUnit plant) (λ unit. SoundUnit short (unit_until horizon unit)) plant.units (λ unit. unit_sound plant horizon unit within.1) sound.units);
      tasks = All-each (SoundTask plant) (SoundTask short) plant.tasks (λ task. task_sound short plant task same) sound.tasks;
      runs = All-each (SoundRun plant) (SoundRun short) plant.runs (λ run. run_sound short plant run same) sound.runs;
      gaps = All-each (SoundGap plant) (SoundGap short) plant.gaps (λ gap. gap_sound short plant gap same) sound.gaps;
      receipts = receipts_sound plant horizon plant.receipts sound.receipts;
      deliveries = All-map (SoundDelivery short) (delivered_at horizon) plant.deliveries (All-each (SoundDelivery plant) (λ delivery. SoundDelivery short (delivered_at horizon delivery)) plant.deliveries (λ delivery. delivery_sound plant horizon delivery) sound.deliveries);
      outages = outages_sound plant horizon plant.outages sound.outages;
    }
