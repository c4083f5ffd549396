-- A sound plant with raised limits is sound, and one with limits that are raised by nothing is the same.
use Rattle.std.proofs.Common.{◌≡◌, ◌≢◌, ℕ, suc, ◌<◌, ◌≤◌, Bool, true, false, cond, List, [], ◌∷◌, length, map, get_or, set, min, refl, sym, ap, ◌∙◌, subst, inl, inr, arith, ℤ, pos, ◌+ℤ◌, ◌*ℤ◌, ⊎_elim}
use Rattle.std.specs.Prelude.{int_lt, unsigned_abs, Option, Some, None, IfSome, All, AllPairs}
use Rattle.std.proofs.lemmas.Bool.{cases_eq}
use Rattle.std.proofs.lemmas.Int.{ints}
use Rattle.std.proofs.Math.IntN.{zero-*ℤ}
use Rattle.std.proofs.lemmas.List.{get_or_default, get_or-map, get_or-set_other, get_or-set_same, length-map, length-set, set-get_or}
use Rattle.std.proofs.lemmas.List.Elements.{All-set}
use Rattle.stn_model.specs.declared.plant.Plant.{Plant}
use Rattle.stn_model.specs.declared.plant.State.{State}
use Rattle.stn_model.specs.declared.plant.Last.{Last}
use Rattle.stn_model.specs.Fits.{is_fit}
use Rattle.stn_model.specs.Plant.{end_of, gap_between, is_in_use, no_state, run_on}
use Rattle.stn_model.specs.Points.{gap_pairs, has_slot, meets_gap, slot_count, slots_of}
use Rattle.stn_model.specs.Sound.{Sound, SmallCounts, SoundCounts, SoundLast, SoundNames, SoundState}
use Rattle.what_if.specs.Raised.{raised, raised_limit, raised_states, with_limits, with_states}

-- a raised limit lies in its range
raised_limit-most : (amount : ℤ) (limit : ℕ) → raised_limit amount limit ≤ 1000000000
raised_limit-most amount limit = by_sign (int_lt (pos limit +ℤ amount) (pos 0))
  where
    by_sign : (below : Bool) → cond below 0 (min (unsigned_abs (pos limit +ℤ amount)) 1000000000) ≤ 1000000000
    by_sign true = omega arith
    by_sign false = omega arith

-- a state with raised limits
raised_state : ℤ → State → State
raised_state amount state = with_limits state (map (raised_limit amount) state.limits)

raised_state-sound : (periods : ℕ) (amount : ℤ) (state : State) → SoundState periods state → SoundState periods (raised_state amount state)
unfolding raised_state
raised_state-sound periods amount state sound = record {
  name = sound.name;
  label = sound.label;
  initial = sound.initial;
  limits = ⊎_elim
      (λ (none : state.limits ≡ []). inl (ap (map (raised_limit amount)) none))
      (λ some. inr (length-map state.limits (raised_limit amount) ∙ some))
      sound.limits;
  limit = λ k d lt.
      let here : k < length state.limits = omega (arith, lt, length-map state.limits (raised_limit amount)) in
      subst (λ (n : ℕ). n ≤ 1000000000) (sym (get_or-map (raised_limit amount) state.limits k 0 d here)) (raised_limit-most amount (get_or state.limits k 0));
  price = sound.price;
  holding = sound.holding;
}

module _ (plant : Plant) (states : List State) (same : length states ≡ length plant.states) where
  -- the plant with other states, as many
  other : Plant
  other = with_states plant states

  there : (state : ℕ) → state < length plant.states → state < length states
  there state lt = omega (arith, lt, same)

  slots-same : slot_count other ≡ slot_count plant
  unfolding other slot_count slots_of has_slot is_fit run_on end_of is_in_use
  slots-same = refl

  gap_pairs-same : gap_pairs other ≡ gap_pairs plant
  unfolding other gap_pairs meets_gap has_slot is_fit run_on end_of is_in_use gap_between
  gap_pairs-same = refl

  counts-other : SoundCounts plant → SoundCounts other
  unfolding other
  counts-other counts = record {
    periods = counts.periods;
    states = subst (λ (n : ℕ). n ≤ 160) (sym same) counts.states;
    utilities = counts.utilities;
    units = counts.units;
    tasks = counts.tasks;
    runs = counts.runs;
    gaps = counts.gaps;
    receipts = counts.receipts;
    deliveries = counts.deliveries;
    outages = counts.outages;
    slots = subst (λ (n : ℕ). n ≤ 4096) (sym slots-same) counts.slots;
    gap_pairs = subst (λ (n : ℕ). n ≤ 32768) (sym gap_pairs-same) counts.gap_pairs;
  }

  -- states without labels, where the plant has none
  abbrev Bare : Type 0
  Bare = All (λ (state : State). state.label ≡ []) plant.states → All (λ (state : State). state.label ≡ []) states

  small-other : Bare → SmallCounts plant → SmallCounts other
  unfolding other
  small-other bare counts = record {
    states = subst (λ (n : ℕ). n ≤ 40) (sym same) counts.states;
    utilities = counts.utilities;
    units = counts.units;
    tasks = counts.tasks;
    runs = counts.runs;
    receipts = counts.receipts;
    deliveries = counts.deliveries;
    outages = counts.outages;
    slots = subst (λ (n : ℕ). n ≤ 512) (sym slots-same) counts.slots;
    gap_pairs = subst (λ (n : ℕ). n ≤ 8192) (sym gap_pairs-same) counts.gap_pairs;
    rates = counts.rates;
    gaps = counts.gaps;
    lasts = counts.lasts;
    unlabelled = record {
      calendar = counts.unlabelled.calendar;
      states = bare counts.unlabelled.states;
      utilities = counts.unlabelled.utilities;
      units = counts.unlabelled.units;
      tasks = counts.unlabelled.tasks;
      colours = counts.unlabelled.colours;
    };
  }

  names-other : SoundNames plant → AllPairs (λ a b. a.name ≢ b.name) states → SoundNames other
  unfolding other
  names-other names own = record { states = own; utilities = names.utilities; units = names.units; tasks = names.tasks; runs = names.runs }

  last-other : (last : Option Last) → IfSome last (SoundLast plant) → IfSome last (SoundLast other)
  unfolding other
  last-other None sound = sound
  last-other (Some last) sound = record { task = sound.task; early = sound.early; late = sound.late }

  -- the plant with other states is sound where they are
  sound-other : Sound plant → Bare → All (SoundState plant.periods) states → AllPairs (λ a b. a.name ≢ b.name) states → Sound other
  unfolding other
  sound-other sound bare each names = record {
    counts = counts-other sound.counts;
    calendar = sound.calendar;
    small = λ is. small-other bare (sound.small is);
    names = names-other sound.names names;
    states = each;
    utilities = sound.utilities;
    units = λ k d lt. let unit = sound.units k d lt in record { name = unit.name; label = unit.label; last = last-other _ unit.last };
    tasks = λ k d lt. let task = sound.tasks k d lt in record {
      name = task.name;
      label = task.label;
      colour = task.colour;
      quantum = task.quantum;
      inputs = task.inputs;
      outputs = task.outputs;
      draws = task.draws;
      input = λ j e in'. let input = task.input j e in' in record { state = there _ input.state; part = input.part };
      output = λ j e in'. let output = task.output j e in' in record { state = there _ output.state; part = output.part; delay = output.delay };
      draw = λ j e in'. let draw = task.draw j e in' in record { utility = draw.utility; fixed = draw.fixed; each = draw.each; fixed_small = draw.fixed_small; each_small = draw.each_small };
      taken = task.taken;
      given = task.given;
    };
    runs = λ k d lt. let run = sound.runs k d lt in record { task = run.task; unit = run.unit; least = run.least; range = run.range; most = run.most; cost = run.cost };
    gaps = λ k d lt. let gap = sound.gaps k d lt in record { unit = gap.unit; from = gap.from; to = gap.to; periods = gap.periods; cost = gap.cost };
    receipts = λ k d lt. let receipt = sound.receipts k d lt in record { state = there _ receipt.state; time = receipt.time; amount = receipt.amount };
    deliveries = λ k d lt. let delivery = sound.deliveries k d lt in record { state = there _ delivery.state; time = delivery.time; amount = delivery.amount; payment = delivery.payment };
    outages = λ k d lt. let outage = sound.outages k d lt in record { unit = outage.unit; some = outage.some; to = outage.to };
  }

-- each state keeps its name
names-set : (states : List State) (number : ℕ) (state : State) (i : ℕ) (d : State) → number < length states → state.name ≡ (get_or states number no_state).name → (get_or (set states number state) i d).name ≡ (get_or states i d).name
names-set states number state i d lt same =
    ⊎_elim
    (λ (here : i ≡ number).
    ap (λ (k : ℕ). (get_or (set states number state) k d).name) here ∙ ap (λ (s : State). s.name) (get_or-set_same states number state d lt) ∙ same
    ∙ ap (λ (s : State). s.name) (get_or_default states number no_state d lt) ∙ ap (λ (k : ℕ). (get_or states k d).name) (sym here))
    (λ (apart : i ≡ number → ⊥). ap (λ (s : State). s.name) (get_or-set_other states number i state d apart))
    (cases_eq i number)

-- a sound plant with raised limits is sound
pub raised-sound : (plant : Plant) (number : ℕ) (step : ℤ) (times : ℕ) → Sound plant → number < length plant.states → Sound (raised plant number step times)
unfolding raised_states other raised_state
raised-sound plant number step times sound lt =
    let amount = pos times *ℤ step in
    let own = raised_state amount (get_or plant.states number no_state) in
    sound-other plant (set plant.states number own) (length-set plant.states number own) sound
    (λ bare. All-set (λ (state : State). state.label ≡ []) plant.states number own (bare number no_state lt) bare)
    (All-set (SoundState plant.periods) plant.states number own (raised_state-sound plant.periods amount (get_or plant.states number no_state) (sound.states number no_state lt)) sound.states)
    (λ i j d less in' same. sound.names.states i j d less (omega (arith, in', length-set plant.states number own))
    (sym (names-set plant.states number own i d lt refl) ∙ same ∙ names-set plant.states number own j d lt refl))

-- ---- limits that are raised by nothing

raised_limit-same : (limit : ℕ) → limit ≤ 1000000000 → raised_limit (pos 0) limit ≡ limit
raised_limit-same limit most =
    let same : pos limit +ℤ pos 0 ≡ pos limit = omega (arith, ints) in
    subst (λ (n : ℤ). cond (int_lt n (pos 0)) 0 (min (unsigned_abs n) 1000000000) ≡ limit) (sym same) (within limit most)
  where
    within : (limit : ℕ) → limit ≤ 1000000000 → cond (int_lt (pos limit) (pos 0)) 0 (min limit 1000000000) ≡ limit
    within limit most = grind (arith, ints)

limits-same : (limits : List ℕ) → All (λ limit. limit ≤ 1000000000) limits → map (raised_limit (pos 0)) limits ≡ limits
limits-same [] each = refl
limits-same (limit ∷ limits) each =
    ap (λ (n : ℕ). n ∷ map (raised_limit (pos 0)) limits) (raised_limit-same limit (each 0 0 (omega arith)))
    ∙ ap (λ (rest : List ℕ). limit ∷ rest) (limits-same limits (λ k d lt. each (suc k) d (omega (arith, lt))))

-- the plant of step 0 is the plant
pub raised-none : (plant : Plant) (number : ℕ) (step : ℤ) → Sound plant → number < length plant.states → raised plant number step 0 ≡ plant
unfolding raised_states
raised-none plant number step sound lt =
    let state = get_or plant.states number no_state in
    let nothing : pos 0 *ℤ step ≡ pos 0 = zero-*ℤ step in
    let limits : map (raised_limit (pos 0 *ℤ step)) state.limits ≡ state.limits = ap (λ (n : ℤ). map (raised_limit n) state.limits) nothing ∙ limits-same state.limits (sound.states number no_state lt).limit in
    let same : with_limits state (map (raised_limit (pos 0 *ℤ step)) state.limits) ≡ state = ap (with_limits state) limits in
    ap (with_states plant) (ap (set plant.states number) same ∙ set-get_or plant.states number no_state)
