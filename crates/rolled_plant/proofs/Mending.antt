-- What starts before a period break first of what no later start mends.
use Rattle.std.proofs.Common.{ℕ, ◌<◌, ◌≤◌, List, [], ◌∷◌, length, refl, sym, subst, inl, inr, Option, Some, None, arith}
use Rattle.std.specs.Prelude.{pos, ⊤, All, MatchOption, slice_get, slice_index}
use Rattle.std.proofs.lemmas.Bool.{cases_lt}
use Rattle.stn_model.specs.declared.plant.Plant.{Plant}
use Rattle.stn_model.specs.declared.start.Start.{Start}
use Rattle.stn_model.specs.declared.violation.Violation.{Violation}
use Rattle.stn_model.specs.declared.violation.Violation.TheVariants.{Unfit, Busy, Early, Gap, StockLow, StockHigh, Load}
use Rattle.stn_model.specs.Plant.{state_at, utility_at}
use Rattle.stn_model.specs.Fits.{Fits}
use Rattle.stn_model.specs.Stock.{stock}
use Rattle.stn_model.specs.Load.{load}
use Rattle.stn_model.specs.Feasible.{LoadKept}
use Rattle.stn_model.specs.Violations.{Breaks, BreaksFirst, Before, order_of, start_at}
use Rattle.plan_sim.specs.Faults.{UseKept, AreUsesKept}
use Rattle.plan_sim.specs.Tables.{IsLoadTable}
use Rattle.plan_sim.proofs.Following.{not_below}
use Rattle.plan_sim.proofs.Firsts.{all_from_places, fits_decided, apart_all, apart_decided, begun_all, cleaned_all, by_order, high_decided}
use Rattle.rolled_plant.specs.Kept.{IsMendable}
use Rattle.rolled_plant.specs.Unmended.{IsUnmended, BreaksBefore}
use Rattle.rolled_plant.specs.laws.FirstLoad.{IsFirstLoadAt, IsFirstLoad}
use Rattle.rolled_plant.proofs.Lost.{lost}

-- the violation is of a load
abbrev IsLoad : Violation → Type 0
IsLoad (Load utility period) = ⊤
IsLoad other = ⊥

-- of what no later start mends, the starts break loads alone
abbrev OnlyLoads : Plant → List Start → ℕ → Type 0
OnlyLoads plant before period = (other : Violation) → Breaks plant before other → IsUnmended period other → IsLoad other

only_loads : (plant : Plant) (before : List Start) (period state time : ℕ) → period ≤ time → ((other : Violation) → Breaks plant before other → ¬ Before (order_of other) (3 ∷ time ∷ 0 ∷ state ∷ [])) → OnlyLoads plant before period
only_loads plant before period state time late first (Unfit p) breaks kind = absurd (first (Unfit p) breaks (inl (omega arith)))
only_loads plant before period state time late first (Busy f s) breaks kind = absurd (first (Busy f s) breaks (inl (omega arith)))
only_loads plant before period state time late first (Early p) breaks kind = absurd (first (Early p) breaks (inl (omega arith)))
only_loads plant before period state time late first (Gap f s) breaks kind = absurd (first (Gap f s) breaks (inl (omega arith)))
only_loads plant before period state time late first (StockLow s t) breaks early = absurd (first (StockLow s t) breaks (inr (refl, inl (omega arith))))
only_loads plant before period state time late first (StockHigh s t) breaks early = absurd (first (StockHigh s t) breaks (inr (refl, inl (omega arith))))
only_loads plant before period state time late first (Load u p) breaks kind = tt

not_early : (time period : ℕ) → ¬ (time < period) → period ≤ time
not_early time period h = elim (cases_lt time period) [ inl l ↦ absurd (h l) | inr g ↦ g ]

-- what is broken first of all is broken first of what no later start mends
pub broken_first : (plant : Plant) (before : List Start) (period : ℕ) (v : Violation) → All (λ start. start.period < period) before → BreaksFirst plant before v → IsUnmended period v → BreaksBefore plant before period v
broken_first plant before period v earlier first kind = record {
  breaks = first.breaks;
  unmended = kind;
  first = λ other breaks _. first.first other breaks;
  lost = lost plant before period earlier v first.breaks kind;
}

-- where what is broken first is mended later
pub mended_first : (plant : Plant) (before : List Start) (period : ℕ) (v : Violation) → BreaksFirst plant before v → ¬ IsUnmended period v → OnlyLoads plant before period
mended_first plant before period (Unfit p) first mended = absurd (mended tt)
mended_first plant before period (Busy f s) first mended = absurd (mended tt)
mended_first plant before period (Early p) first mended = absurd (mended tt)
mended_first plant before period (Gap f s) first mended = absurd (mended tt)
mended_first plant before period (StockLow s t) first mended = only_loads plant before period s t (not_early t period mended) first.first
mended_first plant before period (StockHigh s t) first mended = only_loads plant before period s t (not_early t period mended) first.first
mended_first plant before period (Load u p) first mended = absurd (mended tt)

module _ (plant : Plant) (before : List Start) (period : ℕ) (within : period < plant.periods) (earlier : All (λ start. start.period < period) before) (only : OnlyLoads plant before period) where
  goes_on : ((utility time : ℕ) → utility < length plant.utilities → time < plant.periods → LoadKept plant before utility time) → IsMendable plant before period
  goes_on kept = record {
    earlier = earlier;
    fits = all_from_places (Fits plant) before (λ k h. elim (fits_decided plant (start_at before k)) [ inl f ↦ f | inr fails ↦ absurd (only (Unfit k) (h, fails) tt) ]);
    apart = apart_all plant before (λ i k j h l. apart_decided plant (start_at before i) (start_at before j) (λ fails. only (Busy i j) (h, l, fails) tt));
    cleaned = cleaned_all plant before (λ f h s l soon. only (Gap f s) (h, l, soon) tt);
    begun = begun_all plant before (λ p h early. only (Early p) (h, early) tt);
    stocks = λ s t there early.
        let inside : t ≤ plant.periods = omega arith in
        record {
          low = elim (by_order (pos 0) (stock plant before s t)) [ inl l ↦ l | inr g ↦ absurd (only (StockLow s t) (there, inside, g) early) ];
          high = high_decided (stock plant before s t) (slice_get (state_at plant s).limits t) (λ above. only (StockHigh s t) (there, inside, above) early);
        };
    loads = kept;
  }

  module _ (loads : List ℕ) (table : IsLoadTable plant before loads) where
    all_kept : AreUsesKept plant loads → (utility time : ℕ) → utility < length plant.utilities → time < plant.periods → LoadKept plant before utility time
    all_kept kept u t there inside = subst (λ (x : ℕ). x ≤ slice_index (utility_at plant u).limits t) (table.level u t there inside) (kept t inside u there)

    not_broken : (u t : ℕ) → UseKept plant loads u t → ¬ Breaks plant before (Load u t)
    not_broken u t kept breaks =
        let level = table.level u t breaks.0 breaks.1 in
        let over = breaks.2 in
        omega (arith, kept, level, over)

    none_before : (u p : ℕ) → IsFirstLoadAt plant loads u p → (other : Violation) → Breaks plant before other → IsUnmended period other → ¬ Before (order_of other) (3 ∷ p ∷ 1 ∷ u ∷ [])
    none_before u p first (Unfit k) breaks kind lies = only (Unfit k) breaks kind
    none_before u p first (Busy f s) breaks kind lies = only (Busy f s) breaks kind
    none_before u p first (Early k) breaks kind lies = only (Early k) breaks kind
    none_before u p first (Gap f s) breaks kind lies = only (Gap f s) breaks kind
    none_before u p first (StockLow s t) breaks kind lies = only (StockLow s t) breaks kind
    none_before u p first (StockHigh s t) breaks kind lies = only (StockHigh s t) breaks kind
    none_before u p first (Load v t) breaks kind lies =
        elim lies [
          | inl l ↦ omega arith
          | inr e ↦ elim e.1 [
            | inl l ↦ not_broken v t (first.before t l v breaks.0) breaks
            | inr f ↦ elim f.1 [
              | inl l ↦ omega arith
              | inr g ↦ elim g.1 [
                | inl l ↦ not_broken v t (subst (λ (time : ℕ). UseKept plant loads v time) (sym f.0) (first.earlier v l)) breaks
                | inr h ↦ h.1
              ]
            ]
          ]
        ]

    over : (u p : ℕ) → IsFirstLoadAt plant loads u p → slice_index (utility_at plant u).limits p < load plant before u p
    over u p first = subst (λ (x : ℕ). slice_index (utility_at plant u).limits p < x) (table.level u p first.there first.within) (not_below _ _ first.fault)

    first_load_before : (u p : ℕ) → IsFirstLoadAt plant loads u p → BreaksBefore plant before period (Load u p)
    first_load_before u p first = record {
      breaks = (first.there, first.within, over u p first);
      unmended = tt;
      first = none_before u p first;
      lost = lost plant before period earlier (Load u p) (first.there, first.within, over u p first) tt;
    }

    first_of : (v : Violation) → IsFirstLoad plant loads v → BreaksBefore plant before period v
    first_of (Unfit k) first = absurd first
    first_of (Busy f s) first = absurd first
    first_of (Early k) first = absurd first
    first_of (Gap f s) first = absurd first
    first_of (StockLow s t) first = absurd first
    first_of (StockHigh s t) first = absurd first
    first_of (Load u p) first = first_load_before u p first

    -- what the table of loads shows
    pub found_before : (found : Option Violation) → MatchOption found (AreUsesKept plant loads) (IsFirstLoad plant loads) → MatchOption found (IsMendable plant before period) (BreaksBefore plant before period)
    found_before None kept = goes_on (all_kept kept)
    found_before (Some v) first = first_of v first
