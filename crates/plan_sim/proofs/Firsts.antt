-- What is found first is the first violation; and a plan is feasible where it breaks nothing.
use Rattle.std.proofs.Common.{◌≡◌, ℕ, suc, ◌+◌, ◌<◌, ◌≤◌, List, [], ◌∷◌, length, arith, refl, sym, subst, inl, inr, Option, Some, None, get_or, ◌∙◌}
use Rattle.std.specs.Prelude.{ℤ, pos, ◌≤ℤ◌, ◌<ℤ◌, ◌⊎◌, ◌↔◌, All, AllPairs, IsTrue, IsSomeAnd, IfSome, slice_get, slice_index}
use Rattle.std.proofs.lemmas.Int.{ints, by_lt_z}
use Rattle.std.proofs.lemmas.Bool.{cases_lt, cases_Bool, false≢true}
use Rattle.std.proofs.lemmas.List.{get_or_default}
use Rattle.stn_model.specs.declared.plant.Plant.{Plant}
use Rattle.stn_model.specs.declared.start.Start.{Start}
use Rattle.stn_model.specs.declared.violation.Violation.{Violation}
use Rattle.stn_model.specs.declared.violation.Violation.TheVariants.{Unfit, Busy, Early, Gap, StockLow, StockHigh, Load}
use Rattle.stn_model.specs.Plant.{state_at, utility_at, end_of, gap_between, ready_at}
use Rattle.stn_model.specs.Fits.{Fits, is_fit}
use Rattle.stn_model.specs.Batches.{Apart, Begun, Cleaned}
use Rattle.stn_model.specs.Stock.{stock}
use Rattle.stn_model.specs.Load.{load}
use Rattle.stn_model.specs.Sound.{Sound}
use Rattle.plan_sim.specs.declared.verdict.Verdict.{Verdict}
use Rattle.plan_sim.specs.declared.verdict.Verdict.TheVariants.{Broken, Feasible as FeasibleVerdict}
use Rattle.plan_sim.specs.Verdicts.{IsPlanVerdict, IsOfLevel, says_feasible}
use Rattle.stn_model.proofs.Fitting.{ends_later}
use Rattle.stn_model.specs.Feasible.{Feasible, StockKept, LoadKept}
use Rattle.stn_model.specs.Violations.{Breaks, BreaksFirst, Before, order_of, start_at, no_start, TooEarly, TooSoon}
use Rattle.plan_sim.specs.Units.{FitUntil, IsFirstUnfit, ApartThroughout, IsFirstBusy, BegunUntil, IsFirstEarly, CleanedUntil, IsFirstGap, NoTwins, UnitsKept}
use Rattle.plan_sim.specs.Faults.{level, LevelKept, UseKept, KeptBefore, IsFirstLevel, IsFirstUse}
use Rattle.plan_sim.specs.Tables.{IsStockTable, IsLoadTable}
use Rattle.plan_sim.proofs.Following.{not_below}

-- the first number of what comes before is no greater
lead : (x y : ℕ) (xs ys : List ℕ) → Before (x ∷ xs) (y ∷ ys) → x ≤ y
lead x y xs ys h = elim h [ inl l ↦ omega arith | inr e ↦ omega (arith, e.0) ]

-- where the first numbers are the same, the others decide
others : (x : ℕ) (xs ys : List ℕ) → Before (x ∷ xs) (x ∷ ys) → Before xs ys
others x xs ys h = elim h [ inl l ↦ absurd (omega arith) | inr e ↦ e.1 ]

unfit_not_before : (plant : Plant) (plan : List Start) (place : ℕ) → IsFirstUnfit plant plan place → (other : Violation) → Breaks plant plan other → ¬ Before (order_of other) (order_of (Unfit place))
unfit_not_before plant plan place first (Unfit p) breaks before =
    elim (others 0 (p ∷ []) (place ∷ []) before) [ inl l ↦ breaks.1 (first.earlier p l) | inr e ↦ e.1 ]
unfit_not_before plant plan place first (Busy f s) breaks before = absurd (omega (arith, lead 1 0 (f ∷ s ∷ []) (place ∷ []) before))
unfit_not_before plant plan place first (Early p) breaks before = absurd (omega (arith, lead 2 0 (0 ∷ p ∷ []) (place ∷ []) before))
unfit_not_before plant plan place first (Gap f s) breaks before = absurd (omega (arith, lead 2 0 (suc f ∷ s ∷ []) (place ∷ []) before))
unfit_not_before plant plan place first (StockLow s t) breaks before = absurd (omega (arith, lead 3 0 (t ∷ 0 ∷ s ∷ []) (place ∷ []) before))
unfit_not_before plant plan place first (StockHigh s t) breaks before = absurd (omega (arith, lead 3 0 (t ∷ 0 ∷ s ∷ []) (place ∷ []) before))
unfit_not_before plant plan place first (Load u p) breaks before = absurd (omega (arith, lead 3 0 (p ∷ 1 ∷ u ∷ []) (place ∷ []) before))

pub unfit_first : (plant : Plant) (plan : List Start) (place : ℕ) → IsFirstUnfit plant plan place → BreaksFirst plant plan (Unfit place)
unfit_first plant plan place first = record { breaks = (first.there, first.unfit); first = unfit_not_before plant plan place first }

busy_not_before : (plant : Plant) (plan : List Start) (f s : ℕ) → FitUntil plant plan (length plan) → IsFirstBusy plant plan f s → (other : Violation) → Breaks plant plan other → ¬ Before (order_of other) (order_of (Busy f s))
busy_not_before plant plan f s fit first (Unfit p) breaks before = breaks.1 (fit p breaks.0)
busy_not_before plant plan f s fit first (Busy f2 s2) breaks before =
    elim (others 1 (f2 ∷ s2 ∷ []) (f ∷ s ∷ []) before) [
      | inl l ↦ breaks.2 (first.earlier f2 l s2 breaks.0 breaks.1)
      | inr e ↦ elim e.1 [
        | inl l ↦ breaks.2 (subst (λ (k : ℕ). Apart plant (start_at plan k) (start_at plan s2)) (sym e.0) (first.meeting.between s2 (let k : f < s2 = omega (arith, e.0, breaks.0) in k) l))
        | inr r ↦ r.1
      ]
    ]
busy_not_before plant plan f s fit first (Early p) breaks before = absurd (omega (arith, lead 2 1 (0 ∷ p ∷ []) (f ∷ s ∷ []) before))
busy_not_before plant plan f s fit first (Gap f2 s2) breaks before = absurd (omega (arith, lead 2 1 (suc f2 ∷ s2 ∷ []) (f ∷ s ∷ []) before))
busy_not_before plant plan f s fit first (StockLow s2 t) breaks before = absurd (omega (arith, lead 3 1 (t ∷ 0 ∷ s2 ∷ []) (f ∷ s ∷ []) before))
busy_not_before plant plan f s fit first (StockHigh s2 t) breaks before = absurd (omega (arith, lead 3 1 (t ∷ 0 ∷ s2 ∷ []) (f ∷ s ∷ []) before))
busy_not_before plant plan f s fit first (Load u p) breaks before = absurd (omega (arith, lead 3 1 (p ∷ 1 ∷ u ∷ []) (f ∷ s ∷ []) before))

pub busy_first : (plant : Plant) (plan : List Start) (f s : ℕ) → FitUntil plant plan (length plan) → IsFirstBusy plant plan f s → BreaksFirst plant plan (Busy f s)
busy_first plant plan f s fit first = record { breaks = (first.meeting.after, first.meeting.there, first.meeting.meets); first = busy_not_before plant plan f s fit first }

-- no two batches meet
module _ (plant : Plant) (plan : List Start) (fit : FitUntil plant plan (length plan)) (apart : ApartThroughout plant plan) where
  no_busy : (f s : ℕ) → ¬ Breaks plant plan (Busy f s)
  no_busy f s breaks = breaks.2 (apart f (let k : f < length plan = omega (arith, breaks.0, breaks.1) in k) s breaks.0 breaks.1)

  early_not_before : (place : ℕ) → IsFirstEarly plant plan place → (other : Violation) → Breaks plant plan other → ¬ Before (order_of other) (order_of (Early place))
  early_not_before place first (Unfit p) breaks before = breaks.1 (fit p breaks.0)
  early_not_before place first (Busy f s) breaks before = no_busy f s breaks
  early_not_before place first (Early p) breaks before =
      elim (others 0 (p ∷ []) (place ∷ []) (others 2 (0 ∷ p ∷ []) (0 ∷ place ∷ []) before)) [ inl l ↦ first.earlier p l breaks.1 | inr e ↦ e.1 ]
  early_not_before place first (Gap f s) breaks before = absurd (omega (arith, lead (suc f) 0 (s ∷ []) (place ∷ []) (others 2 (suc f ∷ s ∷ []) (0 ∷ place ∷ []) before)))
  early_not_before place first (StockLow s t) breaks before = absurd (omega (arith, lead 3 2 (t ∷ 0 ∷ s ∷ []) (0 ∷ place ∷ []) before))
  early_not_before place first (StockHigh s t) breaks before = absurd (omega (arith, lead 3 2 (t ∷ 0 ∷ s ∷ []) (0 ∷ place ∷ []) before))
  early_not_before place first (Load u p) breaks before = absurd (omega (arith, lead 3 2 (p ∷ 1 ∷ u ∷ []) (0 ∷ place ∷ []) before))

  pub early_first : (place : ℕ) → IsFirstEarly plant plan place → BreaksFirst plant plan (Early place)
  early_first place first = record { breaks = (first.there, first.early); first = early_not_before place first }

  gap_not_before : (f s : ℕ) → BegunUntil plant plan (length plan) → IsFirstGap plant plan f s → (other : Violation) → Breaks plant plan other → ¬ Before (order_of other) (order_of (Gap f s))
  gap_not_before f s begun first (Unfit p) breaks before = breaks.1 (fit p breaks.0)
  gap_not_before f s begun first (Busy f2 s2) breaks before = no_busy f2 s2 breaks
  gap_not_before f s begun first (Early p) breaks before = begun p breaks.0 breaks.1
  gap_not_before f s begun first (Gap f2 s2) breaks before =
      elim (others 2 (suc f2 ∷ s2 ∷ []) (suc f ∷ s ∷ []) before) [
        | inl l ↦ first.earlier f2 (let k : f2 < f = omega (arith, l) in k) s2 breaks.1 breaks.2
        | inr e ↦ elim e.1 [
          | inl l ↦ (let place : f2 ≡ f = omega (arith, e.0) in
              let same : s2 ≡ s = first.follows.only s2 breaks.1 (subst (λ (k : ℕ). TooSoon plant plan (start_at plan k) (start_at plan s2)) place breaks.2) in omega arith)
          | inr r ↦ r.1
        ]
      ]
  gap_not_before f s begun first (StockLow s2 t) breaks before = absurd (omega (arith, lead 3 2 (t ∷ 0 ∷ s2 ∷ []) (suc f ∷ s ∷ []) before))
  gap_not_before f s begun first (StockHigh s2 t) breaks before = absurd (omega (arith, lead 3 2 (t ∷ 0 ∷ s2 ∷ []) (suc f ∷ s ∷ []) before))
  gap_not_before f s begun first (Load u p) breaks before = absurd (omega (arith, lead 3 2 (p ∷ 1 ∷ u ∷ []) (suc f ∷ s ∷ []) before))

  pub gap_first : (f s : ℕ) → BegunUntil plant plan (length plan) → IsFirstGap plant plan f s → BreaksFirst plant plan (Gap f s)
  gap_first f s begun first = record { breaks = (first.there, first.follows.there, first.follows.soon); first = gap_not_before f s begun first }

-- ---- stocks and loads

-- a stock below 0 is not kept
low_breaks : (plant : Plant) (plan : List Start) (s t : ℕ) → stock plant plan s t <ℤ pos 0 → ¬ StockKept plant plan s t
low_breaks plant plan s t low kept = omega (arith, ints, low, kept.low)

-- a stock above its limit is not kept
high_case : (x : ℤ) (o : Option ℕ) → IsSomeAnd o (λ limit. pos limit <ℤ x) → ¬ IfSome o (λ limit. x ≤ℤ pos limit)
high_case x None above within = above
high_case x (Some limit) above within = omega (arith, ints, above, within)

high_breaks : (plant : Plant) (plan : List Start) (s t : ℕ) → IsSomeAnd (slice_get (state_at plant s).limits t) (λ limit. pos limit <ℤ stock plant plan s t) → ¬ StockKept plant plan s t
high_breaks plant plan s t high kept = high_case (stock plant plan s t) (slice_get (state_at plant s).limits t) high kept.high

-- all stocks and loads of a plan are kept before a time
pub record PlanKeptBefore (plant : Plant) (plan : List Start) (time : ℕ) : Type 0 where
  pub stocks : (t : ℕ) → t < time → (s : ℕ) → s < length plant.states → StockKept plant plan s t
  pub loads : (p : ℕ) → p < time → p < plant.periods → (u : ℕ) → u < length plant.utilities → LoadKept plant plan u p

no_unit_breaks_unfit : (plant : Plant) (plan : List Start) (p : ℕ) → UnitsKept plant plan → ¬ Breaks plant plan (Unfit p)
no_unit_breaks_unfit plant plan p kept breaks = breaks.1 (kept.fit p breaks.0)

no_unit_breaks_busy : (plant : Plant) (plan : List Start) (f s : ℕ) → UnitsKept plant plan → ¬ Breaks plant plan (Busy f s)
no_unit_breaks_busy plant plan f s kept breaks = breaks.2 (kept.apart f (let k : f < length plan = omega (arith, breaks.0, breaks.1) in k) s breaks.0 breaks.1)

no_unit_breaks_early : (plant : Plant) (plan : List Start) (p : ℕ) → UnitsKept plant plan → ¬ Breaks plant plan (Early p)
no_unit_breaks_early plant plan p kept breaks = kept.begun p breaks.0 breaks.1

no_unit_breaks_gap : (plant : Plant) (plan : List Start) (f s : ℕ) → UnitsKept plant plan → ¬ Breaks plant plan (Gap f s)
no_unit_breaks_gap plant plan f s kept breaks = kept.cleaned f breaks.0 s breaks.1 breaks.2

-- a stock that comes earlier is kept
earlier_stock : (plant : Plant) (plan : List Start) (s t s2 t2 : ℕ) → PlanKeptBefore plant plan t → ((k : ℕ) → k < s → StockKept plant plan k t) → s2 < length plant.states → Before (3 ∷ t2 ∷ 0 ∷ s2 ∷ []) (3 ∷ t ∷ 0 ∷ s ∷ []) → StockKept plant plan s2 t2
earlier_stock plant plan s t s2 t2 kept earlier there before =
    elim (others 3 (t2 ∷ 0 ∷ s2 ∷ []) (t ∷ 0 ∷ s ∷ []) before) [
      | inl l ↦ kept.stocks t2 l s2 there
      | inr e ↦ elim (others 0 (s2 ∷ []) (s ∷ []) e.1) [
        | inl l ↦ subst (λ (k : ℕ). StockKept plant plan s2 k) (sym e.0) (earlier s2 l)
        | inr r ↦ absurd r.1
      ]
    ]

-- a load that comes before a stock is kept
earlier_load : (plant : Plant) (plan : List Start) (s t u p : ℕ) → PlanKeptBefore plant plan t → u < length plant.utilities → p < plant.periods → Before (3 ∷ p ∷ 1 ∷ u ∷ []) (3 ∷ t ∷ 0 ∷ s ∷ []) → LoadKept plant plan u p
earlier_load plant plan s t u p kept there within before =
    elim (others 3 (p ∷ 1 ∷ u ∷ []) (t ∷ 0 ∷ s ∷ []) before) [
      | inl l ↦ kept.loads p l within u there
      | inr e ↦ absurd (let k : 1 ≤ 0 = lead 1 0 (u ∷ []) (s ∷ []) e.1 in omega arith)
    ]

pub stock_not_before : (plant : Plant) (plan : List Start) (s t : ℕ) → UnitsKept plant plan → PlanKeptBefore plant plan t → ((k : ℕ) → k < s → StockKept plant plan k t) → (other : Violation) → Breaks plant plan other → ¬ Before (order_of other) (3 ∷ t ∷ 0 ∷ s ∷ [])
stock_not_before plant plan s t units kept earlier (Unfit p) breaks before = no_unit_breaks_unfit plant plan p units breaks
stock_not_before plant plan s t units kept earlier (Busy f g) breaks before = no_unit_breaks_busy plant plan f g units breaks
stock_not_before plant plan s t units kept earlier (Early p) breaks before = no_unit_breaks_early plant plan p units breaks
stock_not_before plant plan s t units kept earlier (Gap f g) breaks before = no_unit_breaks_gap plant plan f g units breaks
stock_not_before plant plan s t units kept earlier (StockLow s2 t2) breaks before = low_breaks plant plan s2 t2 breaks.2 (earlier_stock plant plan s t s2 t2 kept earlier breaks.0 before)
stock_not_before plant plan s t units kept earlier (StockHigh s2 t2) breaks before = high_breaks plant plan s2 t2 breaks.2 (earlier_stock plant plan s t s2 t2 kept earlier breaks.0 before)
stock_not_before plant plan s t units kept earlier (Load u p) breaks before = (let k = earlier_load plant plan s t u p kept breaks.0 breaks.1 before in let b = breaks.2 in omega (arith, k, b))

stock_before_load : (plant : Plant) (plan : List Start) (u p s2 t2 : ℕ) → PlanKeptBefore plant plan p → ((k : ℕ) → k < length plant.states → StockKept plant plan k p) → s2 < length plant.states → Before (3 ∷ t2 ∷ 0 ∷ s2 ∷ []) (3 ∷ p ∷ 1 ∷ u ∷ []) → StockKept plant plan s2 t2
stock_before_load plant plan u p s2 t2 kept levels there before =
    elim (others 3 (t2 ∷ 0 ∷ s2 ∷ []) (p ∷ 1 ∷ u ∷ []) before) [
      | inl l ↦ kept.stocks t2 l s2 there
      | inr e ↦ subst (λ (k : ℕ). StockKept plant plan s2 k) (sym e.0) (levels s2 there)
    ]

load_before_load : (plant : Plant) (plan : List Start) (u p u2 p2 : ℕ) → PlanKeptBefore plant plan p → ((k : ℕ) → k < u → LoadKept plant plan k p) → u2 < length plant.utilities → p2 < plant.periods → Before (3 ∷ p2 ∷ 1 ∷ u2 ∷ []) (3 ∷ p ∷ 1 ∷ u ∷ []) → LoadKept plant plan u2 p2
load_before_load plant plan u p u2 p2 kept earlier there within before =
    elim (others 3 (p2 ∷ 1 ∷ u2 ∷ []) (p ∷ 1 ∷ u ∷ []) before) [
      | inl l ↦ kept.loads p2 l within u2 there
      | inr e ↦ elim (others 1 (u2 ∷ []) (u ∷ []) e.1) [
        | inl l ↦ subst (λ (k : ℕ). LoadKept plant plan u2 k) (sym e.0) (earlier u2 l)
        | inr r ↦ absurd r.1
      ]
    ]

pub load_not_before : (plant : Plant) (plan : List Start) (u p : ℕ) → UnitsKept plant plan → PlanKeptBefore plant plan p → ((k : ℕ) → k < length plant.states → StockKept plant plan k p) → ((k : ℕ) → k < u → LoadKept plant plan k p) → (other : Violation) → Breaks plant plan other → ¬ Before (order_of other) (3 ∷ p ∷ 1 ∷ u ∷ [])
load_not_before plant plan u p units kept levels earlier (Unfit q) breaks before = no_unit_breaks_unfit plant plan q units breaks
load_not_before plant plan u p units kept levels earlier (Busy f g) breaks before = no_unit_breaks_busy plant plan f g units breaks
load_not_before plant plan u p units kept levels earlier (Early q) breaks before = no_unit_breaks_early plant plan q units breaks
load_not_before plant plan u p units kept levels earlier (Gap f g) breaks before = no_unit_breaks_gap plant plan f g units breaks
load_not_before plant plan u p units kept levels earlier (StockLow s2 t2) breaks before = low_breaks plant plan s2 t2 breaks.2 (stock_before_load plant plan u p s2 t2 kept levels breaks.0 before)
load_not_before plant plan u p units kept levels earlier (StockHigh s2 t2) breaks before = high_breaks plant plan s2 t2 breaks.2 (stock_before_load plant plan u p s2 t2 kept levels breaks.0 before)
load_not_before plant plan u p units kept levels earlier (Load u2 p2) breaks before = (let k = load_before_load plant plan u p u2 p2 kept earlier breaks.0 breaks.1 before in let b = breaks.2 in omega (arith, k, b))

-- ---- from the tables to the plan

module _ (plant : Plant) (plan : List Start) (stocks : List ℤ) (loads : List ℕ) (table : IsStockTable plant plan stocks) (uses : IsLoadTable plant plan loads) where
  stock_kept : (s t : ℕ) → s < length plant.states → t ≤ plant.periods → LevelKept plant stocks s t → StockKept plant plan s t
  stock_kept s t there within kept = record {
    low = subst (λ (x : ℤ). pos 0 ≤ℤ x) (table.level s t there within) kept.low;
    high = subst (λ (x : ℤ). IfSome (slice_get (state_at plant s).limits t) (λ limit. x ≤ℤ pos limit)) (table.level s t there within) kept.high;
  }

  load_kept : (u p : ℕ) → u < length plant.utilities → p < plant.periods → UseKept plant loads u p → LoadKept plant plan u p
  load_kept u p there within kept = subst (λ (x : ℕ). x ≤ slice_index (utility_at plant u).limits p) (uses.level u p there within) kept

  pub plan_kept : (time : ℕ) → time ≤ plant.periods + 1 → KeptBefore plant stocks loads time → PlanKeptBefore plant plan time
  plan_kept time short kept = record {
    stocks = λ t h s there. stock_kept s t there (omega arith) (kept.levels t h s there);
    loads = λ p h within u there. load_kept u p there within (kept.uses p h within u there);
  }

  pub low_first : (s t : ℕ) → UnitsKept plant plan → IsFirstLevel plant stocks loads s t → level plant stocks s t <ℤ pos 0 → BreaksFirst plant plan (StockLow s t)
  low_first s t units first low = record {
    breaks = (first.there, first.within, subst (λ (x : ℤ). x <ℤ pos 0) (table.level s t first.there first.within) low);
    first = stock_not_before plant plan s t units (plan_kept t (let w = first.within in omega arith) first.before) (λ k h. stock_kept k t (let w = first.there in omega arith) first.within (first.earlier k h));
  }

  pub high_first : (s t : ℕ) → UnitsKept plant plan → IsFirstLevel plant stocks loads s t → IsSomeAnd (slice_get (state_at plant s).limits t) (λ limit. pos limit <ℤ level plant stocks s t) → BreaksFirst plant plan (StockHigh s t)
  high_first s t units first high = record {
    breaks = (first.there, first.within, subst (λ (x : ℤ). IsSomeAnd (slice_get (state_at plant s).limits t) (λ limit. pos limit <ℤ x)) (table.level s t first.there first.within) high);
    first = stock_not_before plant plan s t units (plan_kept t (let w = first.within in omega arith) first.before) (λ k h. stock_kept k t (let w = first.there in omega arith) first.within (first.earlier k h));
  }

  pub level_first : (s t : ℕ) (v : Violation) → UnitsKept plant plan → IsFirstLevel plant stocks loads s t → IsOfLevel plant stocks s t v → BreaksFirst plant plan v
  level_first s t v units first how = elim how [
    | inl l ↦ subst (BreaksFirst plant plan) (sym l.0) (low_first s t units first l.1)
    | inr r ↦ subst (BreaksFirst plant plan) (sym r.0) (high_first s t units first r.1)
  ]

  pub load_first : (u p : ℕ) → UnitsKept plant plan → IsFirstUse plant stocks loads u p → BreaksFirst plant plan (Load u p)
  load_first u p units first = record {
    breaks = (first.there, first.within, subst (λ (x : ℕ). slice_index (utility_at plant u).limits p < x) (uses.level u p first.there first.within) (not_below _ _ first.fault));
    first = load_not_before plant plan u p units (plan_kept p (let w = first.within in omega arith) first.before) (λ k h. stock_kept k p h (let w = first.within in omega arith) (first.levels k h)) (λ k h. load_kept k p (let w = first.there in omega arith) first.within (first.earlier k h));
  }

pub by_order : (a b : ℤ) → (a ≤ℤ b) ⊎ (b <ℤ a)
by_order a b = by_lt_z b a inr inl

-- the level of a stock that is not kept, and not below 0, is above its limit
above_limit : (x : ℤ) (o : Option ℕ) → ¬ (IfSome o (λ limit. x ≤ℤ pos limit)) → IsSomeAnd o (λ limit. pos limit <ℤ x)
above_limit x None h = absurd (h tt)
above_limit x (Some limit) h = elim (by_order x (pos limit)) [ inl l ↦ absurd (h l) | inr g ↦ g ]

pub high_level : (plant : Plant) (stocks : List ℤ) (s t : ℕ) → ¬ LevelKept plant stocks s t → pos 0 ≤ℤ level plant stocks s t → IsSomeAnd (slice_get (state_at plant s).limits t) (λ limit. pos limit <ℤ level plant stocks s t)
high_level plant stocks s t fault low = above_limit (level plant stocks s t) (slice_get (state_at plant s).limits t) (λ high. fault (record { low = low; high = high }))

-- ---- units

-- what holds of the start at each place holds of all
pub all_from_places : (P : Start → Type 0) (plan : List Start) → ((k : ℕ) → k < length plan → P (start_at plan k)) → All P plan
all_from_places P plan h k d l = subst P (get_or_default plan k no_start d l) (h k l)

pub fit_all : (plant : Plant) (plan : List Start) → FitUntil plant plan (length plan) → All (Fits plant) plan
fit_all plant plan fit = all_from_places (Fits plant) plan fit

pub apart_all : (plant : Plant) (plan : List Start) → ApartThroughout plant plan → AllPairs (Apart plant) plan
apart_all plant plan apart i j d h l =
    let k : i < length plan = omega arith in
    subst (λ (a : Start). Apart plant a (get_or plan j d)) (get_or_default plan i no_start d k) (subst (λ (b : Start). Apart plant (start_at plan i) b) (get_or_default plan j no_start d l) (apart i k j h l))

begun_one : (plant : Plant) (plan : List Start) (b : Start) → ¬ TooEarly plant plan b → Begun plant plan b
begun_one plant plan b h first = elim (cases_lt b.period (ready_at plant b.unit b.task)) [
  | inl l ↦ absurd (h (record { first = first; early = l }))
  | inr g ↦ g
]

pub begun_all : (plant : Plant) (plan : List Start) → BegunUntil plant plan (length plan) → All (Begun plant plan) plan
begun_all plant plan begun = all_from_places (Begun plant plan) plan (λ k h. begun_one plant plan (start_at plan k) (begun k h))

cleaned_pair : (plant : Plant) (plan : List Start) (a b : Start) → ¬ TooSoon plant plan a b → Cleaned plant plan a b
cleaned_pair plant plan a b h next = elim (cases_lt b.period (end_of plant a + gap_between plant a.unit a.task b.task)) [
  | inl l ↦ absurd (h (record { next = next; soon = l }))
  | inr g ↦ g
]

pub cleaned_all : (plant : Plant) (plan : List Start) → CleanedUntil plant plan (length plan) → All (λ a. All (Cleaned plant plan a) plan) plan
cleaned_all plant plan cleaned = all_from_places (λ a. All (Cleaned plant plan a) plan) plan (λ f h. all_from_places (Cleaned plant plan (start_at plan f)) plan (λ s l. cleaned_pair plant plan (start_at plan f) (start_at plan s) (cleaned f h s l)))

-- two starts of a unit in one period would meet, as each batch takes time
pub no_twins : (plant : Plant) (plan : List Start) → Sound plant → FitUntil plant plan (length plan) → ApartThroughout plant plan → NoTwins plan
no_twins plant plan sound fit apart i j h l unit period =
    let k : i < length plan = omega arith in
    let a = ends_later plant (start_at plan i) sound (fit i k) in
    let b = ends_later plant (start_at plan j) sound (fit j l) in
    elim (apart i k j h l unit) [ inl x ↦ omega (arith, x, a, period) | inr y ↦ omega (arith, y, b, period) ]

pub feasible_from : (plant : Plant) (plan : List Start) → UnitsKept plant plan → PlanKeptBefore plant plan (plant.periods + 1) → Feasible plant plan
feasible_from plant plan units kept = record {
  fits = fit_all plant plan units.fit;
  apart = apart_all plant plan units.apart;
  cleaned = cleaned_all plant plan units.cleaned;
  begun = begun_all plant plan units.begun;
  stocks = λ s t there within. kept.stocks t (omega arith) s there;
  loads = λ u p there within. kept.loads p (omega arith) within u there;
}

-- ---- the law

-- a feasible plan breaks nothing
pub feasible_breaks_nothing : (plant : Plant) (plan : List Start) → Feasible plant plan → (v : Violation) → ¬ Breaks plant plan v
feasible_breaks_nothing plant plan f (Unfit p) breaks = breaks.1 (f.fits p no_start breaks.0)
feasible_breaks_nothing plant plan f (Busy i j) breaks = breaks.2 (f.apart i j no_start breaks.0 breaks.1)
feasible_breaks_nothing plant plan f (Early p) breaks = (let k = f.begun p no_start breaks.0 breaks.1.first in let b = breaks.1.early in omega (arith, k, b))
feasible_breaks_nothing plant plan f (Gap i j) breaks = (let k = f.cleaned i no_start breaks.0 j no_start breaks.1 breaks.2.next in let b = breaks.2.soon in omega (arith, k, b))
feasible_breaks_nothing plant plan f (StockLow s t) breaks = low_breaks plant plan s t breaks.2 (f.stocks s t breaks.0 breaks.1)
feasible_breaks_nothing plant plan f (StockHigh s t) breaks = high_breaks plant plan s t breaks.2 (f.stocks s t breaks.0 breaks.1)
feasible_breaks_nothing plant plan f (Load u p) breaks = (let k = f.loads u p breaks.0 breaks.1 in let b = breaks.2 in omega (arith, k, b))

-- whether a start fits can be decided
pub fits_decided : (plant : Plant) (start : Start) → Fits plant start ⊎ (¬ Fits plant start)
fits_decided plant start = elim (cases_Bool (is_fit plant start)) [ inl fits ↦ inl fits | inr out ↦ inr (λ fits. false≢true (sym out ∙ fits)) ]

pub apart_decided : (plant : Plant) (a b : Start) → ¬ (¬ Apart plant a b) → Apart plant a b
apart_decided plant a b h unit = elim (cases_lt b.period (end_of plant a)) [
  | inr g ↦ inl g
  | inl l ↦ elim (cases_lt a.period (end_of plant b)) [
    | inr g ↦ inr g
    | inl k ↦ absurd (h (λ apart. elim (apart unit) [ inl x ↦ omega arith | inr y ↦ omega arith ]))
  ]
]

pub high_decided : (x : ℤ) (o : Option ℕ) → ¬ IsSomeAnd o (λ limit. pos limit <ℤ x) → IfSome o (λ limit. x ≤ℤ pos limit)
high_decided x None h = tt
high_decided x (Some limit) h = elim (by_order x (pos limit)) [ inl l ↦ l | inr g ↦ absurd (h g) ]

nothing_broken_is_feasible : (plant : Plant) (plan : List Start) → ((v : Violation) → ¬ Breaks plant plan v) → Feasible plant plan
nothing_broken_is_feasible plant plan none = record {
  fits = all_from_places (Fits plant) plan (λ k h. elim (fits_decided plant (start_at plan k)) [ inl f ↦ f | inr fails ↦ absurd (none (Unfit k) (h, fails)) ]);
  apart = apart_all plant plan (λ i k j h l. apart_decided plant (start_at plan i) (start_at plan j) (λ fails. none (Busy i j) (h, l, fails)));
  cleaned = cleaned_all plant plan (λ f h s l soon. none (Gap f s) (h, l, soon));
  begun = begun_all plant plan (λ p h early. none (Early p) (h, early));
  stocks = λ s t there within. record {
    low = elim (by_order (pos 0) (stock plant plan s t)) [ inl l ↦ l | inr g ↦ absurd (none (StockLow s t) (there, within, g)) ];
    high = high_decided (stock plant plan s t) (slice_get (state_at plant s).limits t) (λ above. none (StockHigh s t) (there, within, above));
  };
  loads = λ u p there within. elim (cases_lt (slice_index (utility_at plant u).limits p) (load plant plan u p)) [
    | inl l ↦ absurd (none (Load u p) (there, within, l))
    | inr g ↦ g
  ];
}

-- A plan is feasible exactly where it breaks nothing.
pub feasible_exactly : (plant : Plant) (plan : List Start) → Feasible plant plan ↔ ((v : Violation) → ¬ Breaks plant plan v)
feasible_exactly plant plan = (feasible_breaks_nothing plant plan, nothing_broken_is_feasible plant plan)

-- a right verdict says 'feasible' exactly of feasible plans
pub says_exactly : (plant : Plant) (plan : List Start) (verdict : Verdict) → IsPlanVerdict plant plan verdict → IsTrue (says_feasible verdict) ↔ Feasible plant plan
says_exactly plant plan (FeasibleVerdict earned) h = (λ _. h.0, λ _. refl)
says_exactly plant plan (Broken v) h = (λ e. absurd (false≢true e), λ f. absurd (feasible_breaks_nothing plant plan f v h.breaks))
