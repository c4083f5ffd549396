-- A plan of the rolled plant is feasible exactly where the plant carries it out behind the starts before.
use Rattle.std.proofs.Common.{◌≡◌, ℕ, ◌+◌, ◌-◌, ◌<◌, ◌≤◌, true, List, length, get_or, map, refl, sym, ap, ◌∙◌, subst, inl, inr, arith, Option, Some, None}
use Rattle.std.specs.Prelude.{All, ◌&&◌, ◌==◌}
use Rattle.std.proofs.lemmas.Bool.{cases_lt, and_parts, and_from, eqb-true, both_ways}
use Rattle.std.proofs.lemmas.List.{get_or_default}
use Rattle.std.proofs.lemmas.List.Elements.{All-append, All-map}
use Rattle.stn_model.specs.declared.plant.Plant.{Plant}
use Rattle.stn_model.specs.declared.start.Start.{Start}
use Rattle.stn_model.specs.Plant.{end_of, gap_between, ready_at, ready_after, unit_at}
use Rattle.stn_model.specs.Fits.{Fits}
use Rattle.stn_model.specs.Batches.{Apart, Cleaned, Begun, is_next, is_first}
use Rattle.stn_model.specs.Feasible.{Feasible, StockKept, LoadKept}
use Rattle.stn_model.specs.Sound.{Sound}
use Rattle.stn_model.specs.Violations.{start_at, no_start}
use Rattle.rolled_plant.specs.Kept.{later, joined, IsMendable}
use Rattle.rolled_plant.specs.Begin.{is_last, is_latest, latest, last_after, last_behind}
use Rattle.rolled_plant.specs.RolledPlant.{rolled_plant}
use Rattle.rolled_plant.proofs.Joined.{All-left, All-right, All-of_map, pairs_right, pairs_joined, pairs_map, pairs_of_map, found_at}
use Rattle.rolled_plant.proofs.Given.{end_later}
use Rattle.rolled_plant.proofs.Fitting.{fits_here, fits_there}
use Rattle.rolled_plant.proofs.Follows.{is_free, next_early, next_back, next_later, next_across, first_early, first_later}
use Rattle.rolled_plant.proofs.Latest.{latest_on, latest_is, first_on, free_where_none, held_where_some}
use Rattle.rolled_plant.proofs.Ready.{ready_here, ready_there}
use Rattle.rolled_plant.proofs.Stocks.{states_are, kept_here, kept_there, kept_early}
use Rattle.rolled_plant.proofs.Loads.{utilities_are, load_here, load_there, load_early}

-- its periods are those that are left
pub periods_are : (plant : Plant) (before : List Start) (period : ℕ) → (rolled_plant plant before period).periods ≡ plant.periods - period
unfolding rolled_plant
periods_are plant before period = refl

-- its cleaning takes as long
gap_same : (plant : Plant) (before : List Start) (period unit from to : ℕ) → gap_between (rolled_plant plant before period) unit from to ≡ gap_between plant unit from to
unfolding gap_between rolled_plant
gap_same plant before period unit from to = refl

module _ (plant : Plant) (before : List Start) (period : ℕ) (plan : List Start) (sound : Sound plant) (on : IsMendable plant before period) where
  -- ---- the plant's plan, seen from the rolled plant

  apart_here : (x y : Start) → Apart plant (later period x) (later period y) → Apart (rolled_plant plant before period) x y
  apart_here x y apart same =
      let end_x = end_later plant before period x in
      let end_y = end_later plant before period y in
      elim (apart same) [ inl l ↦ inl (omega (arith, l, end_x)) | inr l ↦ inr (omega (arith, l, end_y)) ]

  cleaned_here : (x y : Start) → Cleaned plant (joined before period plan) (later period x) (later period y) → Cleaned (rolled_plant plant before period) plan x y
  cleaned_here x y cleaned next =
      let ends = end_later plant before period x in
      let gap = gap_same plant before period x.unit x.task y.task in
      let is = cleaned (next_later before period plan x y on.earlier ∙ next) in
      omega (arith, is, ends, gap)

  -- a first batch waits for the latest start on its unit
  waits_for : (y a : Start) → latest before y.unit ≡ Some a → All (λ b. Cleaned plant (joined before period plan) b (later period y)) before → is_first plan y ≡ true
      → end_of plant a + gap_between plant y.unit a.task y.task ≤ period + y.period
  unfolding latest
  waits_for y a is cleaned first =
      let found = found_at (is_latest before y.unit) before a is in
      let passes = and_parts (a.unit == y.unit) (is_last before a) found.3 in
      let same : a.unit ≡ y.unit = eqb-true a.unit y.unit passes.0 in
      let early : a.period < period = subst (λ (s : Start). s.period < period) found.2 (on.earlier found.0 a found.1) in
      let next : is_next (joined before period plan) a (later period y) ≡ true =
      next_across before period plan a y on.earlier early ∙ and_from (a.unit == y.unit) (is_last before a && is_first plan y) passes.0 (and_from (is_last before a) (is_first plan y) passes.1 first) in
      let own = subst (λ (s : Start). Cleaned plant (joined before period plan) s (later period y)) found.2 (cleaned found.0 a found.1) in
      subst (λ (u : ℕ). end_of plant a + gap_between plant u a.task y.task ≤ period + y.period) same (own next)

  -- or, where there is none, for the batch that held its unit before all starts
  waits : (y : Start) (o : Option Start) → latest before y.unit ≡ o → All (λ a. Cleaned plant (joined before period plan) a (later period y)) before
      → Begun plant (joined before period plan) (later period y) → is_first plan y ≡ true → ready_after plant y.unit y.task (last_after plant o (unit_at plant y.unit).last) ≤ period + y.period
  unfolding ready_at
  waits y None is cleaned begun first =
      begun (first_later before period plan y on.earlier ∙ and_from (is_free before y.unit) (is_first plan y) (free_where_none plant before period y.unit sound on is) first)
  waits y (Some a) is cleaned begun first = waits_for y a is cleaned first

  begun_here : (y : Start) → All (λ a. Cleaned plant (joined before period plan) a (later period y)) before
      → Begun plant (joined before period plan) (later period y) → Begun (rolled_plant plant before period) plan y
  unfolding last_behind
  begun_here y cleaned begun first =
      ready_here plant before period y.unit y.task y.period sound on (waits y (latest before y.unit) refl cleaned begun first)

  pub here : period < plant.periods → Feasible plant (joined before period plan) → Feasible (rolled_plant plant before period) plan
  here within feasible =
      let rest = map (later period) plan in
      let fit = All-of_map (Fits plant) (later period) plan (All-right (Fits plant) before rest feasible.fits) in
      let cleaned_there : (k : ℕ) (d : Start) → k < length plan → All (λ a. Cleaned plant (joined before period plan) a (later period (get_or plan k d))) before =
      λ k d l i e inside. All-of_map (λ y. Cleaned plant (joined before period plan) (get_or before i e) y) (later period) plan
      (All-right (Cleaned plant (joined before period plan) (get_or before i e)) before rest
      (All-left (λ a. All (Cleaned plant (joined before period plan) a) (joined before period plan)) before rest feasible.cleaned i e inside)) k d l in
      record {
        fits = λ k d l. fits_here plant before period (get_or plan k d) sound within (fit k d l);
        apart = λ i j d less inside. apart_here (get_or plan i d) (get_or plan j d) (pairs_of_map (Apart plant) (later period) plan (pairs_right (Apart plant) before rest feasible.apart) i j d less inside);
        cleaned = λ i d l j e inside. cleaned_here (get_or plan i d) (get_or plan j e)
            (All-of_map (λ y. Cleaned plant (joined before period plan) (later period (get_or plan i d)) y) (later period) plan
            (All-right (Cleaned plant (joined before period plan) (later period (get_or plan i d))) before rest
            (All-of_map (λ a. All (Cleaned plant (joined before period plan) a) (joined before period plan)) (later period) plan
            (All-right (λ a. All (Cleaned plant (joined before period plan) a) (joined before period plan)) before rest feasible.cleaned) i d l)) j e inside);
        begun = λ k d l. begun_here (get_or plan k d)
            (cleaned_there k d l)
            (All-of_map (Begun plant (joined before period plan)) (later period) plan (All-right (Begun plant (joined before period plan)) before rest feasible.begun) k d l);
        stocks = λ state time there inside.
            (let s : state < length plant.states = omega (arith, there, states_are plant before period) in
            let t : time ≤ plant.periods - period = omega (arith, inside, periods_are plant before period) in
            kept_here plant before period plan state time on s t (feasible.stocks state (period + time) s (omega arith)));
        loads = λ utility time there inside.
            (let u : utility < length plant.utilities = omega (arith, there, utilities_are plant before period) in
            let t : time < plant.periods - period = omega (arith, inside, periods_are plant before period) in
            load_here plant before period plan utility time sound u t (feasible.loads utility (period + time) u (omega arith)));
      }

  -- ---- the rolled plant's plan, seen from the plant

  apart_there : (x y : Start) → Apart (rolled_plant plant before period) x y → Apart plant (later period x) (later period y)
  apart_there x y apart same =
      let end_x = end_later plant before period x in
      let end_y = end_later plant before period y in
      elim (apart same) [ inl l ↦ inl (omega (arith, l, end_x)) | inr l ↦ inr (omega (arith, l, end_y)) ]

  cleaned_later : (x y : Start) → Cleaned (rolled_plant plant before period) plan x y → Cleaned plant (joined before period plan) (later period x) (later period y)
  cleaned_later x y cleaned next =
      let ends = end_later plant before period x in
      let gap = gap_same plant before period x.unit x.task y.task in
      let is = cleaned (sym (next_later before period plan x y on.earlier) ∙ next) in
      omega (arith, is, ends, gap)

  -- what a first batch of the rolled plant waits for, where a start before is the latest on its unit
  waited : (y a : Start) → latest before y.unit ≡ Some a → Begun (rolled_plant plant before period) plan y → is_first plan y ≡ true
      → end_of plant a + gap_between plant y.unit a.task y.task ≤ period + y.period
  unfolding last_behind
  waited y a is begun first =
      let ready = ready_there plant before period y.unit y.task y.period sound on (begun first) in
      subst (λ (o : Option Start). ready_after plant y.unit y.task (last_after plant o (unit_at plant y.unit).last) ≤ period + y.period) is ready

  -- and where none is
  waited_for_none : (y : Start) → latest before y.unit ≡ None → Begun (rolled_plant plant before period) plan y → is_first plan y ≡ true
      → ready_at plant y.unit y.task ≤ period + y.period
  unfolding last_behind ready_at
  waited_for_none y is begun first =
      let ready = ready_there plant before period y.unit y.task y.period sound on (begun first) in
      subst (λ (o : Option Start). ready_after plant y.unit y.task (last_after plant o (unit_at plant y.unit).last) ≤ period + y.period) is ready

  -- a start before ends by each later one on its unit
  ends_before : (i k : ℕ) → All (Begun (rolled_plant plant before period) plan) plan → i < length before → k < length plan
      → (start_at before i).unit ≡ (start_at plan k).unit → end_of plant (start_at before i) ≤ period + (start_at plan k).period
  ends_before i k begun inside within same =
      let latest_one = latest_on plant before period i sound on inside in
      let first = first_on plan k within in
      let unit : (start_at before i).unit ≡ (start_at plan first.first_place).unit = same ∙ sym first.unit in
      let waits = waited (start_at plan first.first_place) (start_at before latest_one.latest_place) (sym (ap (latest before) unit) ∙ latest_one.found) (begun first.first_place no_start first.there) first.first in
      let order = first.earlier in
      let ends = latest_one.ends in
      omega (arith, waits, order, ends)

  apart_across : (i k : ℕ) → All (Begun (rolled_plant plant before period) plan) plan → i < length before → k < length plan
      → Apart plant (start_at before i) (later period (start_at plan k))
  apart_across i k begun inside within same = inl (ends_before i k begun inside within same)

  -- a start before is cleaned after, by a later one that is next
  cleaned_across : (i : ℕ) (y : Start) → i < length before → Begun (rolled_plant plant before period) plan y
      → Cleaned plant (joined before period plan) (start_at before i) (later period y)
  cleaned_across i y inside begun next =
      let a = start_at before i in
      let early : a.period < period = on.earlier i no_start inside in
      let parts = and_parts (a.unit == y.unit) (is_last before a && is_first plan y) (sym (next_across before period plan a y on.earlier early) ∙ next) in
      let both = and_parts (is_last before a) (is_first plan y) parts.1 in
      let same : a.unit ≡ y.unit = eqb-true a.unit y.unit parts.0 in
      let is : latest before y.unit ≡ Some a = latest_is plant before period y.unit sound on i no_start inside (and_from (a.unit == y.unit) (is_last before a) parts.0 both.0) in
      subst (λ (u : ℕ). end_of plant a + gap_between plant u a.task y.task ≤ period + y.period) (sym same) (waited y a is begun both.1)

  -- a later start that comes first on its unit has waited for the batch that held it before all starts
  begun_later : (y : Start) (o : Option Start) → latest before y.unit ≡ o → Begun (rolled_plant plant before period) plan y → Begun plant (joined before period plan) (later period y)
  begun_later y None is begun first =
      let parts = and_parts (is_free before y.unit) (is_first plan y) (sym (first_later before period plan y on.earlier) ∙ first) in
      waited_for_none y is begun parts.1
  begun_later y (Some a) is begun first =
      let parts = and_parts (is_free before y.unit) (is_first plan y) (sym (first_later before period plan y on.earlier) ∙ first) in
      absurd (both_ways (is_free before y.unit) (held_where_some before y.unit a is) parts.0)

  cleaned_back : (x b : Start) → b.period < period → Cleaned plant (joined before period plan) (later period x) b
  cleaned_back x b early next = absurd (both_ways (is_next (joined before period plan) (later period x) b) (next_back before period plan x b (omega arith)) next)

  cleaned_early : (a b : Start) → b.period < period → Cleaned plant before a b → Cleaned plant (joined before period plan) a b
  cleaned_early a b early cleaned next = cleaned (sym (next_early before period plan a b (omega arith)) ∙ next)

  begun_early : (b : Start) → b.period < period → Begun plant before b → Begun plant (joined before period plan) b
  begun_early b early begun first = begun (sym (first_early before period plan b (omega arith)) ∙ first)

  -- the stocks and loads of all times
  stocks_there : period < plant.periods → Feasible (rolled_plant plant before period) plan → (state time : ℕ) → state < length plant.states → time ≤ plant.periods → StockKept plant (joined before period plan) state time
  stocks_there within feasible state time there inside =
      elim (cases_lt time period) [
        | inl early ↦ kept_early plant before period plan state time early (on.stocks state time there early)
        | inr late ↦
            let rest : time - period ≤ plant.periods - period = omega arith in
            let e : period + (time - period) ≡ time = omega arith in
            subst (λ (t : ℕ). StockKept plant (joined before period plan) state t) e
            (kept_there plant before period plan state (time - period) on there rest
            (feasible.stocks state (time - period) (omega (arith, there, states_are plant before period)) (omega (arith, rest, periods_are plant before period))))
      ]

  loads_there : period < plant.periods → Feasible (rolled_plant plant before period) plan → (utility time : ℕ) → utility < length plant.utilities → time < plant.periods → LoadKept plant (joined before period plan) utility time
  loads_there within feasible utility time there inside =
      elim (cases_lt time period) [
        | inl early ↦ omega (arith, load_early plant before period plan utility time early, on.loads utility time there inside)
        | inr late ↦
            let rest : time - period < plant.periods - period = omega arith in
            let e : period + (time - period) ≡ time = omega arith in
            subst (λ (t : ℕ). LoadKept plant (joined before period plan) utility t) e
            (load_there plant before period plan utility (time - period) sound on there rest
            (feasible.loads utility (time - period) (omega (arith, there, utilities_are plant before period)) (omega (arith, rest, periods_are plant before period))))
      ]

  -- what holds of the start at a place of the plan holds whatever stands for those that are not there
  at_default : (P : Start → Type 0) (xs : List Start) (k : ℕ) (d : Start) → k < length xs → P (start_at xs k) → P (get_or xs k d)
  at_default P xs k d l p = subst P (get_or_default xs k no_start d l) p

  pub there : period < plant.periods → Feasible (rolled_plant plant before period) plan → Feasible plant (joined before period plan)
  there within feasible =
      let rest = map (later period) plan in
      let whole = joined before period plan in
      let fit : All (Fits plant) rest = All-map (Fits plant) (later period) plan (λ k d l. fits_there plant before period (get_or plan k d) sound within (feasible.fits k d l)) in
      record {
        fits = All-append (Fits plant) before rest on.fits fit;
        apart = pairs_joined (Apart plant) before rest on.apart
            (pairs_map (Apart plant) (later period) plan (λ i j d less inside. apart_there (get_or plan i d) (get_or plan j d) (feasible.apart i j d less inside)))
            (λ i d l. All-map (Apart plant (get_or before i d)) (later period) plan (λ k e inside.
            at_default (λ a. Apart plant a (later period (get_or plan k e))) before i d l
            (at_default (λ y. Apart plant (start_at before i) (later period y)) plan k e inside (apart_across i k feasible.begun l inside))));
        cleaned = All-append (λ a. All (Cleaned plant whole a) whole) before rest
            (λ i d l. All-append (Cleaned plant whole (get_or before i d)) before rest
            (λ j e inside. cleaned_early (get_or before i d) (get_or before j e) (on.earlier j e inside) (on.cleaned i d l j e inside))
            (All-map (Cleaned plant whole (get_or before i d)) (later period) plan (λ k e inside.
            at_default (λ a. Cleaned plant whole a (later period (get_or plan k e))) before i d l
            (cleaned_across i (get_or plan k e) l (feasible.begun k e inside)))))
            (All-map (λ a. All (Cleaned plant whole a) whole) (later period) plan (λ i d l.
            All-append (Cleaned plant whole (later period (get_or plan i d))) before rest
            (λ j e inside. cleaned_back (get_or plan i d) (get_or before j e) (on.earlier j e inside))
            (All-map (Cleaned plant whole (later period (get_or plan i d))) (later period) plan (λ j e inside. cleaned_later (get_or plan i d) (get_or plan j e) (feasible.cleaned i d l j e inside)))));
        begun = All-append (Begun plant whole) before rest
            (λ k d l. begun_early (get_or before k d) (on.earlier k d l) (on.begun k d l))
            (All-map (Begun plant whole) (later period) plan (λ k d l. begun_later (get_or plan k d) (latest before (get_or plan k d).unit) refl (feasible.begun k d l)));
        stocks = stocks_there within feasible;
        loads = loads_there within feasible;
      }
