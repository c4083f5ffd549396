-- The list is empty exactly where the plan is feasible, and begins with what the plan breaks first.
use Rattle.std.proofs.Common.{◌≡◌, ℕ, ◌+◌, ◌-◌, ◌<◌, ◌≤◌, List, [], ◌∷◌, ◌++◌, length, drop, get_or, arith, refl, sym, ap, ◌∙◌, subst, inl, inr, Option, Some, None, Bool, true, false, cond, ltb, eqb, max, min, ◌&&◌}
use Rattle.std.specs.Prelude.{ℤ, pos, ◌≤ℤ◌, ◌<ℤ◌, ◌-ℤ◌, ◌↔◌, IsSomeAnd, IfSome, slice_get, slice_index, position, not, int_lt, unsigned_abs}
use Rattle.std.specs.Option.{option_map}
use Rattle.std.proofs.lemmas.Int.{ints, by_lt_z}
use Rattle.std.proofs.lemmas.Bool.{cases_lt, cases_order, cases_Bool, false≢true, and_parts, and_from, eqb-true, eq-eqb, ltb-true, lt-ltb, le-ltb}
use Rattle.std.proofs.lemmas.List.{get_or-drop, length-drop}
use Rattle.std.proofs.lemmas.List.Quantifiers.{position-Some}
use Rattle.stn_model.specs.declared.plant.Plant.{Plant}
use Rattle.stn_model.specs.declared.start.Start.{Start}
use Rattle.stn_model.specs.Plant.{state_at, utility_at, end_of, gap_between, ready_at}
use Rattle.stn_model.specs.Fits.{Fits, is_fit}
use Rattle.stn_model.specs.Batches.{Apart, is_first, is_next}
use Rattle.stn_model.specs.Stock.{stock}
use Rattle.stn_model.specs.Load.{load}
use Rattle.stn_model.specs.Sound.{Sound}
use Rattle.stn_model.specs.Feasible.{Feasible, StockKept, LoadKept}
use Rattle.stn_model.specs.Violations.{BreaksFirst, start_at, no_start, TooEarly, TooSoon}
use Rattle.stn_model.proofs.Fitting.{ends_later}
use Rattle.plan_sim.specs.Units.{FitUntil, ApartUntil, ApartThroughout, BegunUntil, NoneTooSoon, NoTwins, UnitsKept}
use Rattle.plan_sim.proofs.Following.{nearest_from_next, nearest_unique}
use Rattle.plan_sim.proofs.Firsts.{unfit_first, busy_first, early_first, gap_first, no_twins, PlanKeptBefore, stock_not_before, load_not_before, feasible_from, feasible_breaks_nothing}
use Rattle.plan_violations.specs.declared.breach.Breach.{Breach}
use Rattle.plan_violations.specs.declared.breach.Breach.TheVariants.{Unfit, Busy, Early, Gap, StockLow, StockHigh, Load}
use Rattle.plan_violations.specs.Lists.{listed, listed_amount, listed_below}
use Rattle.plan_violations.specs.Breaches.{misfit_of, unfit_at, meets, meeting_after, busy_at, unready_by, early_at, early_by, comes_early, gap_at, excess, above, stock_at, load_at, amounts_at, of_units, breaches}
use Rattle.plan_violations.specs.Laws.{violation_of, BeginsWithFirst}
use Rattle.plan_violations.proofs.Places.{position_none}
use Rattle.plan_violations.proofs.Leads.{Leads, append_none, leads_append, below_none, leads_below, leads_amount, amount_none}

-- the violation comes first
abbrev IsFirst : Plant → List Start → Breach → Type 0
IsFirst plant plan breach = BreaksFirst plant plan (violation_of breach)

-- ---- two batches

met_not_apart : (plant : Plant) (a b : Start) → meets plant a b ≡ true → ¬ Apart plant a b
unfolding meets
met_not_apart plant a b h apart =
    let both = and_parts (eqb a.unit b.unit) (ltb (max a.period b.period) (min (end_of plant a) (end_of plant b))) h in
    let unit : a.unit ≡ b.unit = eqb-true a.unit b.unit both.0 in
    let common : max a.period b.period < min (end_of plant a) (end_of plant b) = ltb-true (max a.period b.period) (min (end_of plant a) (end_of plant b)) both.1 in
    elim (apart unit) [ inl x ↦ omega arith | inr y ↦ omega arith ]

unmet_apart : (plant : Plant) (a b : Start) → a.period < end_of plant a → b.period < end_of plant b → meets plant a b ≡ false → Apart plant a b
unfolding meets
unmet_apart plant a b p q h unit = elim (cases_lt b.period (end_of plant a)) [
  | inr g ↦ inl g
  | inl l ↦ elim (cases_lt a.period (end_of plant b)) [
    | inr g ↦ inr g
    | inl k ↦
        (let common : max a.period b.period < min (end_of plant a) (end_of plant b) = omega arith in
        let yes : meets plant a b ≡ true = and_from (eqb a.unit b.unit) (ltb (max a.period b.period) (min (end_of plant a) (end_of plant b))) (eq-eqb a.unit b.unit unit) (lt-ltb (max a.period b.period) (min (end_of plant a) (end_of plant b)) common) in
        absurd (false≢true (sym h ∙ yes)))
  ]
]

early_soon : (plant : Plant) (plan : List Start) (a b : Start) → comes_early plant plan a b ≡ true → TooSoon plant plan a b
unfolding comes_early early_by
early_soon plant plan a b h =
    let last = and_parts (is_next plan a b && ltb 0 (early_by plant a b)) (not (meets plant a b)) h in
    let both = and_parts (is_next plan a b) (ltb 0 (early_by plant a b)) last.0 in
    let early : 0 < end_of plant a + gap_between plant a.unit a.task b.task - b.period = ltb-true 0 (early_by plant a b) both.1 in
    record { next = both.0; soon = omega arith }

apart_unmet : (plant : Plant) (a b : Start) → a.period < b.period → Apart plant a b → not (meets plant a b) ≡ true
unfolding meets
apart_unmet plant a b later apart = elim (cases_Bool (meets plant a b)) [
  | inl e ↦ absurd (met_not_apart plant a b e apart)
  | inr e ↦ ap not e
]

soon_early : (plant : Plant) (plan : List Start) (a b : Start) → a.period < b.period → Apart plant a b → TooSoon plant plan a b → comes_early plant plan a b ≡ true
unfolding comes_early early_by
soon_early plant plan a b later apart soon =
    let late = soon.soon in
    let early : 0 < end_of plant a + gap_between plant a.unit a.task b.task - b.period = omega arith in
    and_from (is_next plan a b && ltb 0 (early_by plant a b)) (not (meets plant a b))
    (and_from (is_next plan a b) (ltb 0 (early_by plant a b)) soon.next (lt-ltb 0 (early_by plant a b) early))
    (apart_unmet plant a b later apart)

-- ---- amounts

lt_is : (x y : ℤ) → x <ℤ y → int_lt x y ≡ true
lt_is x y h = grind (arith, ints)

lt_not : (x y : ℤ) → y ≤ℤ x → int_lt x y ≡ false
lt_not x y h = grind (arith, ints)

excess_none : (x y : ℤ) → excess x y ≡ 0 → x ≤ℤ y
excess_none x y e = by_lt_z y x
    (λ (l : y <ℤ x). let same : unsigned_abs (x -ℤ y) ≡ 0 = ap (λ (b : Bool). cond b (unsigned_abs (x -ℤ y)) 0) (sym (lt_is y x l)) ∙ e in absurd (omega (arith, ints, same, l)))
    (λ (g : x ≤ℤ y). g)

excess_some : (x y : ℤ) → 0 < excess x y → y <ℤ x
excess_some x y h = by_lt_z y x
    (λ (l : y <ℤ x). l)
    (λ (g : x ≤ℤ y). let none : excess x y ≡ 0 = ap (λ (b : Bool). cond b (unsigned_abs (x -ℤ y)) 0) (lt_not y x g) in absurd (omega (arith, none, h)))

above_none : (level : ℤ) (limit : Option ℕ) → above level limit ≡ 0 → IfSome limit (λ most. level ≤ℤ pos most)
above_none level None e = tt
above_none level (Some most) e = excess_none level (pos most) e

above_some : (level : ℤ) (limit : Option ℕ) → 0 < above level limit → IsSomeAnd limit (λ most. pos most <ℤ level)
above_some level None h = absurd (omega arith)
above_some level (Some most) h = excess_some level (pos most) h

-- ---- units

module _ (plant : Plant) (plan : List Start) (sound : Sound plant) where
  unfit_none : (k : ℕ) → unfit_at plant plan k ≡ [] → Fits plant (start_at plan k)
  unfolding unfit_at
  unfit_none k e = elim (cases_Bool (is_fit plant (start_at plan k))) [
    | inl fits ↦ fits
    | inr out ↦ (let there : Unfit k (misfit_of plant (start_at plan k)) ∷ [] ≡ [] = ap (λ (b : Bool). cond b [] (Unfit k (misfit_of plant (start_at plan k)) ∷ [])) (sym out) ∙ e in
        let f : ⊥ = cc in absurd f)
  ]

  unfit_leads : (k : ℕ) → k < length plan → ((j : ℕ) → j < k → unfit_at plant plan j ≡ []) → Leads (IsFirst plant plan) (unfit_at plant plan k)
  unfolding unfit_at
  unfit_leads k there earlier = elim (cases_Bool (is_fit plant (start_at plan k))) [
    | inl fits ↦ subst (λ (b : Bool). Leads (IsFirst plant plan) (cond b [] (Unfit k (misfit_of plant (start_at plan k)) ∷ []))) (sym fits) tt
    | inr out ↦ subst (λ (b : Bool). Leads (IsFirst plant plan) (cond b [] (Unfit k (misfit_of plant (start_at plan k)) ∷ []))) (sym out)
        (unfit_first plant plan k (record { there = there; unfit = λ fits. false≢true (sym out ∙ fits); earlier = λ j h. unfit_none j (earlier j h) }))
  ]

  -- the place is the first after k that meets it, or none does
  abbrev Met : ℕ → Option ℕ → Type 0
  Met k None = (j : ℕ) → k < j → j < length plan → meets plant (start_at plan k) (start_at plan j) ≡ false
  Met k (Some s) = (k < s) × (s < length plan) × (meets plant (start_at plan k) (start_at plan s) ≡ true) × ((j : ℕ) → k < j → j < s → meets plant (start_at plan k) (start_at plan j) ≡ false)

  at_drop : (k j : ℕ) → k < j → get_or (drop (k + 1) plan) (j - (k + 1)) no_start ≡ start_at plan j
  at_drop k j h =
      let place : k + 1 + (j - (k + 1)) ≡ j = omega arith in
      get_or-drop (k + 1) plan (j - (k + 1)) no_start ∙ ap (λ (i : ℕ). get_or plan i no_start) place

  met_by : (k : ℕ) (o : Option ℕ) → position (meets plant (start_at plan k)) (drop (k + 1) plan) ≡ o → Met k (option_map (λ i. k + 1 + i) o)
  met_by k None e = λ j h l.
      let there : j - (k + 1) < length (drop (k + 1) plan) = simp length-drop (omega arith) in
      ap (meets plant (start_at plan k)) (sym (at_drop k j h)) ∙ position_none (meets plant (start_at plan k)) (drop (k + 1) plan) no_start e (j - (k + 1)) there
  met_by k (Some i) e =
      let found = position-Some (meets plant (start_at plan k)) (drop (k + 1) plan) i no_start e in
      let there : i < length (drop (k + 1) plan) = found.0 in
      let inside : i < length plan - (k + 1) = simp length-drop at there in
      let here : get_or (drop (k + 1) plan) i no_start ≡ start_at plan (k + 1 + i) = get_or-drop (k + 1) plan i no_start in (
        omega arith,
        omega arith,
        ap (meets plant (start_at plan k)) (sym here) ∙ found.1,
        λ j h l.
            let low : j - (k + 1) < i = omega arith in
            ap (meets plant (start_at plan k)) (sym (at_drop k j h)) ∙ found.2 (j - (k + 1)) low,
      )

  met_after : (k : ℕ) → Met k (meeting_after plant plan k)
  unfolding meeting_after
  met_after k = met_by k (position (meets plant (start_at plan k)) (drop (k + 1) plan)) refl

  early_none : (k : ℕ) → early_at plant plan k ≡ [] → ¬ TooEarly plant plan (start_at plan k)
  unfolding early_at unready_by
  early_none k e early =
      let b = start_at plan k in
      let here : listed_amount (λ n. Early k n) (ready_at plant b.unit b.task - b.period) ≡ [] = ap (λ (x : Bool). cond x (listed_amount (λ n. Early k n) (ready_at plant b.unit b.task - b.period)) []) (sym early.first) ∙ e in
      let none = amount_none (λ n. Early k n) (ready_at plant b.unit b.task - b.period) here in
      omega (arith, early.early, none)

  begun_from : listed_below (early_at plant plan) (length plan) ≡ [] → BegunUntil plant plan (length plan)
  begun_from e k h = early_none k (below_none (early_at plant plan) (length plan) e k h)

  -- every start fits
  module _ (fit : FitUntil plant plan (length plan)) where
    takes_time : (k : ℕ) → k < length plan → (start_at plan k).period < end_of plant (start_at plan k)
    takes_time k h = ends_later plant (start_at plan k) sound (fit k h)

    apart_by : (i j : ℕ) → i < length plan → j < length plan → meets plant (start_at plan i) (start_at plan j) ≡ false → Apart plant (start_at plan i) (start_at plan j)
    apart_by i j h l e = unmet_apart plant (start_at plan i) (start_at plan j) (takes_time i h) (takes_time j l) e

    busy_none_by : (k : ℕ) → k < length plan → (o : Option ℕ) → Met k o → listed (λ s. Busy k s) o ≡ [] → ApartUntil plant plan k (length plan)
    busy_none_by k there None met e = λ j h l. apart_by k j there l (met j h l)
    busy_none_by k there (Some s) met e = let f : ⊥ = cc in absurd f

    busy_none : (k : ℕ) → k < length plan → busy_at plant plan k ≡ [] → ApartUntil plant plan k (length plan)
    unfolding busy_at
    busy_none k there e = busy_none_by k there (meeting_after plant plan k) (met_after k) e

    busy_leads_by : (k : ℕ) → k < length plan → ((j : ℕ) → j < k → busy_at plant plan j ≡ []) → (o : Option ℕ) → Met k o → Leads (IsFirst plant plan) (listed (λ s. Busy k s) o)
    busy_leads_by k there earlier None met = tt
    busy_leads_by k there earlier (Some s) met =
        let inside : s < length plan = met.1 in
        busy_first plant plan k s fit (record {
          meeting = record {
            after = met.0;
            there = met.1;
            meets = met_not_apart plant (start_at plan k) (start_at plan s) met.2;
            between = λ j h l. let in_plan : j < length plan = omega arith in apart_by k j there in_plan (met.3 j h l);
          };
          earlier = λ j h. let in_plan : j < length plan = omega arith in busy_none j in_plan (earlier j h);
        })

    busy_leads : (k : ℕ) → k < length plan → ((j : ℕ) → j < k → busy_at plant plan j ≡ []) → Leads (IsFirst plant plan) (busy_at plant plan k)
    unfolding busy_at
    busy_leads k there earlier = busy_leads_by k there earlier (meeting_after plant plan k) (met_after k)

    -- no two batches meet
    module _ (apart : ApartThroughout plant plan) where
      twins : NoTwins plan
      twins = no_twins plant plan sound fit apart

      either_way : (a b : Start) → Apart plant a b → Apart plant b a
      either_way a b h unit = elim (h (sym unit)) [ inl x ↦ inr x | inr y ↦ inl y ]

      apart_pair : (i j : ℕ) → i < length plan → j < length plan → (start_at plan i).period < (start_at plan j).period → Apart plant (start_at plan i) (start_at plan j)
      apart_pair i j h l later = elim (cases_order i j) [
        | inl e ↦ absurd (let same : (start_at plan i).period ≡ (start_at plan j).period = ap (λ (k : ℕ). (start_at plan k).period) e in omega arith)
        | inr o ↦ elim o [
          | inl below ↦ apart i h j below l
          | inr over ↦ either_way (start_at plan j) (start_at plan i) (apart j l i over h)
        ]
      ]

      early_leads : (k : ℕ) → k < length plan → ((j : ℕ) → j < k → early_at plant plan j ≡ []) → Leads (IsFirst plant plan) (early_at plant plan k)
      unfolding early_at unready_by
      early_leads k there earlier =
          let b = start_at plan k in
          let early = ready_at plant b.unit b.task - b.period in
          let shown : Bool → List Breach = λ x. cond x (listed_amount (λ n. Early k n) early) [] in
          elim (cases_Bool (is_first plan b)) [
            | inl first ↦ subst (λ (x : Bool). Leads (IsFirst plant plan) (shown x)) (sym first)
                (leads_amount (IsFirst plant plan) (λ n. Early k n) early (λ h.
                early_first plant plan fit apart k (record { there = there; early = record { first = first; early = omega (arith, h) }; earlier = λ j l. early_none j (earlier j l) })))
            | inr other ↦ subst (λ (x : Bool). Leads (IsFirst plant plan) (shown x)) (sym other) tt
          ]

      is_later : (i j : ℕ) → j < length plan → TooSoon plant plan (start_at plan i) (start_at plan j) → (start_at plan i).period < (start_at plan j).period
      is_later i j l soon = (nearest_from_next plan (start_at plan i) j l soon.next).later.1

      gap_none_by : (k : ℕ) → k < length plan → (o : Option ℕ) → position (comes_early plant plan (start_at plan k)) plan ≡ o → listed (λ s. Gap k s (early_by plant (start_at plan k) (start_at plan s))) o ≡ [] → NoneTooSoon plant plan (start_at plan k)
      gap_none_by k there None found e = λ j l soon.
          let later : (start_at plan k).period < (start_at plan j).period = is_later k j l soon in
          let yes : comes_early plant plan (start_at plan k) (start_at plan j) ≡ true = soon_early plant plan (start_at plan k) (start_at plan j) later (apart_pair k j there l later) soon in
          false≢true (sym (position_none (comes_early plant plan (start_at plan k)) plan no_start found j l) ∙ yes)
      gap_none_by k there (Some s) found e = let f : ⊥ = cc in absurd f

      gap_none : (k : ℕ) → k < length plan → gap_at plant plan k ≡ [] → NoneTooSoon plant plan (start_at plan k)
      unfolding gap_at
      gap_none k there e = gap_none_by k there (position (comes_early plant plan (start_at plan k)) plan) refl e

      gap_leads_by : BegunUntil plant plan (length plan) → (k : ℕ) → k < length plan → ((j : ℕ) → j < k → gap_at plant plan j ≡ []) → (o : Option ℕ) → position (comes_early plant plan (start_at plan k)) plan ≡ o → Leads (IsFirst plant plan) (listed (λ s. Gap k s (early_by plant (start_at plan k) (start_at plan s))) o)
      gap_leads_by begun k there earlier None found = tt
      gap_leads_by begun k there earlier (Some s) found =
          let a = start_at plan k in
          let first = position-Some (comes_early plant plan a) plan s no_start found in
          let soon : TooSoon plant plan a (start_at plan s) = early_soon plant plan a (start_at plan s) first.1 in
          gap_first plant plan fit apart k s begun (record {
            there = there;
            follows = record {
              there = first.0;
              soon = soon;
              only = λ other h late. nearest_unique plan a other s twins (nearest_from_next plan a other h late.next) (nearest_from_next plan a s first.0 soon.next);
            };
            earlier = λ j h. let in_plan : j < length plan = omega arith in gap_none j in_plan (earlier j h);
          })

      gap_leads : BegunUntil plant plan (length plan) → (k : ℕ) → k < length plan → ((j : ℕ) → j < k → gap_at plant plan j ≡ []) → Leads (IsFirst plant plan) (gap_at plant plan k)
      unfolding gap_at
      gap_leads begun k there earlier = gap_leads_by begun k there earlier (position (comes_early plant plan (start_at plan k)) plan) refl

  -- ---- all of the units

  fit_from : listed_below (unfit_at plant plan) (length plan) ≡ [] → FitUntil plant plan (length plan)
  fit_from e k h = unfit_none k (below_none (unfit_at plant plan) (length plan) e k h)

  apart_from : FitUntil plant plan (length plan) → listed_below (busy_at plant plan) (length plan) ≡ [] → ApartThroughout plant plan
  apart_from fit e k h = busy_none fit k h (below_none (busy_at plant plan) (length plan) e k h)

  units_kept : of_units plant plan ≡ [] → UnitsKept plant plan
  unfolding of_units
  units_kept e =
      let last = append_none (listed_below (unfit_at plant plan) (length plan) ++ listed_below (busy_at plant plan) (length plan) ++ listed_below (early_at plant plan) (length plan)) (listed_below (gap_at plant plan) (length plan)) e in
      let three = append_none (listed_below (unfit_at plant plan) (length plan) ++ listed_below (busy_at plant plan) (length plan)) (listed_below (early_at plant plan) (length plan)) last.0 in
      let both = append_none (listed_below (unfit_at plant plan) (length plan)) (listed_below (busy_at plant plan) (length plan)) three.0 in
      let fit : FitUntil plant plan (length plan) = fit_from both.0 in
      let apart : ApartThroughout plant plan = apart_from fit both.1 in
      record { fit = fit; apart = apart; begun = begun_from three.1; cleaned = λ k h. gap_none fit apart k h (below_none (gap_at plant plan) (length plan) last.1 k h) }

  units_lead : Leads (IsFirst plant plan) (of_units plant plan)
  unfolding of_units
  units_lead =
      let unfit = listed_below (unfit_at plant plan) (length plan) in
      let busy = listed_below (busy_at plant plan) (length plan) in
      let early = listed_below (early_at plant plan) (length plan) in
      leads_append (IsFirst plant plan) (unfit ++ busy ++ early) (listed_below (gap_at plant plan) (length plan))
      (leads_append (IsFirst plant plan) (unfit ++ busy) early
      (leads_append (IsFirst plant plan) unfit busy
      (leads_below (IsFirst plant plan) (unfit_at plant plan) (length plan) unfit_leads)
      (λ e. leads_below (IsFirst plant plan) (busy_at plant plan) (length plan) (busy_leads (fit_from e))))
      (λ e. let both = append_none unfit busy e in
      let fit : FitUntil plant plan (length plan) = fit_from both.0 in
      leads_below (IsFirst plant plan) (early_at plant plan) (length plan) (early_leads fit (apart_from fit both.1))))
      (λ e. let three = append_none (unfit ++ busy) early e in
      let both = append_none unfit busy three.0 in
      let fit : FitUntil plant plan (length plan) = fit_from both.0 in
      leads_below (IsFirst plant plan) (gap_at plant plan) (length plan) (gap_leads fit (apart_from fit both.1) (begun_from three.1)))

  -- ---- stocks and loads

  stock_none : (time state : ℕ) → stock_at plant plan time state ≡ [] → StockKept plant plan state time
  unfolding stock_at
  stock_none time state e =
      let both = append_none (listed_amount (λ short. StockLow state time short) (excess (pos 0) (stock plant plan state time))) (listed_amount (λ over. StockHigh state time over) (above (stock plant plan state time) (slice_get (state_at plant state).limits time))) e in
      record {
        low = excess_none (pos 0) (stock plant plan state time) (amount_none (λ short. StockLow state time short) (excess (pos 0) (stock plant plan state time)) both.0);
        high = above_none (stock plant plan state time) (slice_get (state_at plant state).limits time) (amount_none (λ over. StockHigh state time over) (above (stock plant plan state time) (slice_get (state_at plant state).limits time)) both.1);
      }

  load_none : (period utility : ℕ) → load_at plant plan period utility ≡ [] → LoadKept plant plan utility period
  unfolding load_at
  load_none period utility e =
      let none : load plant plan utility period - slice_index (utility_at plant utility).limits period ≡ 0 = amount_none (λ over. Load utility period over) (load plant plan utility period - slice_index (utility_at plant utility).limits period) e in
      omega arith

  stocks_none : (time : ℕ) → amounts_at plant plan time ≡ [] → (state : ℕ) → state < length plant.states → StockKept plant plan state time
  unfolding amounts_at
  stocks_none time e state h =
      let both = append_none (listed_below (stock_at plant plan time) (length plant.states)) (cond (ltb time plant.periods) (listed_below (load_at plant plan time) (length plant.utilities)) []) e in
      stock_none time state (below_none (stock_at plant plan time) (length plant.states) both.0 state h)

  loads_none : (time : ℕ) → time < plant.periods → amounts_at plant plan time ≡ [] → (utility : ℕ) → utility < length plant.utilities → LoadKept plant plan utility time
  unfolding amounts_at
  loads_none time within e utility h =
      let both = append_none (listed_below (stock_at plant plan time) (length plant.states)) (cond (ltb time plant.periods) (listed_below (load_at plant plan time) (length plant.utilities)) []) e in
      let none : listed_below (load_at plant plan time) (length plant.utilities) ≡ [] = ap (λ (b : Bool). cond b (listed_below (load_at plant plan time) (length plant.utilities)) []) (sym (lt-ltb time plant.periods within)) ∙ both.1 in
      load_none time utility (below_none (load_at plant plan time) (length plant.utilities) none utility h)

  kept_before : (time : ℕ) → ((t : ℕ) → t < time → amounts_at plant plan t ≡ []) → PlanKeptBefore plant plan time
  kept_before time none = record {
    stocks = λ t h state there. stocks_none t (none t h) state there;
    loads = λ p h within utility there. loads_none p within (none p h) utility there;
  }

  module _ (units : UnitsKept plant plan) where
    stock_leads : (time state : ℕ) → time ≤ plant.periods → state < length plant.states → PlanKeptBefore plant plan time → ((k : ℕ) → k < state → StockKept plant plan k time) → Leads (IsFirst plant plan) (stock_at plant plan time state)
    unfolding stock_at
    stock_leads time state within there kept earlier =
        let level = stock plant plan state time in
        let limit = slice_get (state_at plant state).limits time in
        leads_append (IsFirst plant plan) (listed_amount (λ short. StockLow state time short) (excess (pos 0) level)) (listed_amount (λ over. StockHigh state time over) (above level limit))
        (leads_amount (IsFirst plant plan) (λ short. StockLow state time short) (excess (pos 0) level)
        (λ h. record { breaks = (there, within, excess_some (pos 0) level h); first = stock_not_before plant plan state time units kept earlier }))
        (λ e. leads_amount (IsFirst plant plan) (λ over. StockHigh state time over) (above level limit)
        (λ h. record { breaks = (there, within, above_some level limit h); first = stock_not_before plant plan state time units kept earlier }))

    load_leads : (period utility : ℕ) → period < plant.periods → utility < length plant.utilities → PlanKeptBefore plant plan period → ((k : ℕ) → k < length plant.states → StockKept plant plan k period) → ((k : ℕ) → k < utility → LoadKept plant plan k period) → Leads (IsFirst plant plan) (load_at plant plan period utility)
    unfolding load_at
    load_leads period utility within there kept levels earlier =
        leads_amount (IsFirst plant plan) (λ over. Load utility period over) (load plant plan utility period - slice_index (utility_at plant utility).limits period)
        (λ h. let over : slice_index (utility_at plant utility).limits period < load plant plan utility period = omega arith in
        record { breaks = (there, within, over); first = load_not_before plant plan utility period units kept levels earlier })

    uses_lead : (time : ℕ) → PlanKeptBefore plant plan time → ((k : ℕ) → k < length plant.states → StockKept plant plan k time) → Leads (IsFirst plant plan) (cond (ltb time plant.periods) (listed_below (load_at plant plan time) (length plant.utilities)) [])
    uses_lead time kept levels = elim (cases_lt time plant.periods) [
      | inl within ↦ subst (λ (b : Bool). Leads (IsFirst plant plan) (cond b (listed_below (load_at plant plan time) (length plant.utilities)) [])) (sym (lt-ltb time plant.periods within))
          (leads_below (IsFirst plant plan) (load_at plant plan time) (length plant.utilities)
          (λ utility h earlier. load_leads time utility within h kept levels (λ k l. load_none time k (earlier k l))))
      | inr past ↦ subst (λ (b : Bool). Leads (IsFirst plant plan) (cond b (listed_below (load_at plant plan time) (length plant.utilities)) [])) (sym (le-ltb time plant.periods past)) tt
    ]

    amounts_lead : (time : ℕ) → time < plant.periods + 1 → ((t : ℕ) → t < time → amounts_at plant plan t ≡ []) → Leads (IsFirst plant plan) (amounts_at plant plan time)
    unfolding amounts_at
    amounts_lead time h none =
        let within : time ≤ plant.periods = omega arith in
        leads_append (IsFirst plant plan) (listed_below (stock_at plant plan time) (length plant.states)) (cond (ltb time plant.periods) (listed_below (load_at plant plan time) (length plant.utilities)) [])
        (leads_below (IsFirst plant plan) (stock_at plant plan time) (length plant.states)
        (λ state there earlier. stock_leads time state within there (kept_before time none) (λ k l. stock_none time k (earlier k l))))
        (λ e. uses_lead time (kept_before time none) (λ k l. stock_none time k (below_none (stock_at plant plan time) (length plant.states) e k l)))

  -- ---- the laws

  all_lead : Leads (IsFirst plant plan) (breaches plant plan)
  unfolding breaches
  all_lead =
      leads_append (IsFirst plant plan) (of_units plant plan) (listed_below (amounts_at plant plan) (plant.periods + 1)) units_lead
      (λ e. leads_below (IsFirst plant plan) (amounts_at plant plan) (plant.periods + 1) (amounts_lead (units_kept e)))

  none_is_feasible : breaches plant plan ≡ [] → Feasible plant plan
  unfolding breaches
  none_is_feasible e =
      let both = append_none (of_units plant plan) (listed_below (amounts_at plant plan) (plant.periods + 1)) e in
      feasible_from plant plan (units_kept both.0) (kept_before (plant.periods + 1) (below_none (amounts_at plant plan) (plant.periods + 1) both.1))

  feasible_none : (found : List Breach) → Leads (IsFirst plant plan) found → Feasible plant plan → found ≡ []
  feasible_none [] lead feasible = refl
  feasible_none (breach ∷ others) lead feasible = absurd (feasible_breaks_nothing plant plan feasible (violation_of breach) lead.breaks)

begins : (plant : Plant) (plan : List Start) (found : List Breach) → Leads (IsFirst plant plan) found → BeginsWithFirst plant plan found
begins plant plan [] lead = tt
begins plant plan (breach ∷ others) lead = lead

-- the list begins with what the plan breaks first
pub begins_with_first : (plant : Plant) (plan : List Start) → Sound plant → (found : List Breach) → found ≡ breaches plant plan → BeginsWithFirst plant plan found
begins_with_first plant plan sound found e = subst (BeginsWithFirst plant plan) (sym e) (begins plant plan (breaches plant plan) (all_lead plant plan sound))

-- the list is empty exactly where the plan is feasible
pub empty_exactly : (plant : Plant) (plan : List Start) → Sound plant → (found : List Breach) → found ≡ breaches plant plan → (found ≡ []) ↔ Feasible plant plan
empty_exactly plant plan sound found e =
    (λ none. none_is_feasible plant plan sound (sym e ∙ none), λ feasible. e ∙ feasible_none plant plan sound (breaches plant plan) (all_lead plant plan sound) feasible)
