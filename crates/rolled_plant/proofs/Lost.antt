-- Behind starts that break what no later start mends no plan is feasible.
use Rattle.std.proofs.Common.{◌≡◌, ℕ, ◌+◌, ◌-◌, ◌<◌, ◌≤◌, List, length, map, subst, ◌∙◌, inl, inr, arith, Option, Some, None, All}
use Rattle.std.specs.Prelude.{ℤ, pos, ◌<ℤ◌, ◌≤ℤ◌, IfSome, IsSomeAnd, slice_get, slice_index}
use Rattle.std.proofs.lemmas.Bool.{cases_lt}
use Rattle.std.proofs.lemmas.Int.{ints}
use Rattle.stn_model.specs.declared.plant.Plant.{Plant}
use Rattle.stn_model.specs.declared.start.Start.{Start}
use Rattle.stn_model.specs.declared.violation.Violation.{Violation}
use Rattle.stn_model.specs.declared.violation.Violation.TheVariants.{Unfit, Busy, Early, Gap, StockLow, StockHigh, Load}
use Rattle.stn_model.specs.Plant.{state_at, utility_at}
use Rattle.stn_model.specs.Fits.{Fits}
use Rattle.stn_model.specs.Batches.{Apart, Cleaned, Begun}
use Rattle.stn_model.specs.Stock.{stock}
use Rattle.stn_model.specs.Load.{load}
use Rattle.stn_model.specs.Feasible.{Feasible}
use Rattle.stn_model.specs.Violations.{Breaks, TooEarly, TooSoon, start_at, no_start}
use Rattle.rolled_plant.specs.Kept.{later, joined}
use Rattle.rolled_plant.specs.Unmended.{IsUnmended, IsLost}
use Rattle.rolled_plant.proofs.Joined.{All-left, pairs_left}
use Rattle.rolled_plant.proofs.Follows.{next_early, first_early}
use Rattle.rolled_plant.proofs.Stocks.{stock_early}
use Rattle.rolled_plant.proofs.Loads.{load_later, load_early}

not_below_zero : (x : ℤ) → x <ℤ pos 0 → ¬ (pos 0 ≤ℤ x)
not_below_zero x less more = omega (arith, ints, less, more)

not_above : (o : Option ℕ) (x : ℤ) → IsSomeAnd o (λ limit. pos limit <ℤ x) → ¬ IfSome o (λ limit. x ≤ℤ pos limit)
not_above None x above kept = above
not_above (Some limit) x above kept = omega (arith, ints, above, kept)

module _ (plant : Plant) (before : List Start) (period : ℕ) (plan : List Start) (earlier : All (λ start. start.period < period) before) (feasible : Feasible plant (joined before period plan)) where
  fits : (k : ℕ) → k < length before → Fits plant (start_at before k)
  fits k l = All-left (Fits plant) before (map (later period) plan) feasible.fits k no_start l

  apart : (i j : ℕ) → i < j → j < length before → Apart plant (start_at before i) (start_at before j)
  apart i j less l = pairs_left (Apart plant) before (map (later period) plan) feasible.apart i j no_start less l

  not_early : (p : ℕ) → p < length before → ¬ TooEarly plant before (start_at before p)
  not_early p l early =
      let own : (start_at before p).period < period = earlier p no_start l in
      let waits = All-left (Begun plant (joined before period plan)) before (map (later period) plan) feasible.begun p no_start l in
      let ready = waits (first_early before period plan (start_at before p) (omega arith) ∙ early.first) in
      omega (arith, ready, early.early)

  not_soon : (f s : ℕ) → f < length before → s < length before → ¬ TooSoon plant before (start_at before f) (start_at before s)
  not_soon f s l m soon =
      let a = start_at before f in
      let b = start_at before s in
      let own : b.period < period = earlier s no_start m in
      let whole = joined before period plan in
      let cleaned = All-left (Cleaned plant whole a) before (map (later period) plan)
      (All-left (λ x. All (Cleaned plant whole x) whole) before (map (later period) plan) feasible.cleaned f no_start l) s no_start m in
      let waits = cleaned (next_early before period plan a b (omega arith) ∙ soon.next) in
      omega (arith, waits, soon.soon)

  not_low : (state time : ℕ) → state < length plant.states → time ≤ plant.periods → time < period → ¬ (stock plant before state time <ℤ pos 0)
  not_low state time there inside early low =
      not_below_zero (stock plant before state time) low
      (subst (λ (z : ℤ). pos 0 ≤ℤ z) (stock_early plant before period plan state time early) (feasible.stocks state time there inside).low)

  not_high : (state time : ℕ) → state < length plant.states → time ≤ plant.periods → time < period
      → ¬ IsSomeAnd (slice_get (state_at plant state).limits time) (λ limit. pos limit <ℤ stock plant before state time)
  not_high state time there inside early high =
      let limit = slice_get (state_at plant state).limits time in
      not_above limit (stock plant before state time) high
      (subst (λ (z : ℤ). IfSome limit (λ most. z ≤ℤ pos most)) (stock_early plant before period plan state time early) (feasible.stocks state time there inside).high)

  -- the starts before draw no more than all
  drawn_least : (utility time : ℕ) → load plant before utility time ≤ load plant (joined before period plan) utility time
  drawn_least utility time =
      elim (cases_lt time period) [
        | inl early ↦ omega (arith, load_early plant before period plan utility time early)
        | inr late ↦
            let e : period + (time - period) ≡ time = omega arith in
            subst (λ (t : ℕ). load plant before utility t ≤ load plant (joined before period plan) utility t) e
            (omega (arith, load_later plant before period plan utility (time - period)))
      ]

  not_over : (utility time : ℕ) → utility < length plant.utilities → time < plant.periods → ¬ (slice_index (utility_at plant utility).limits time < load plant before utility time)
  not_over utility time there inside over = omega (arith, over, drawn_least utility time, feasible.loads utility time there inside)

  -- what no later start mends is not broken
  unbroken : (v : Violation) → Breaks plant before v → ¬ IsUnmended period v
  unbroken (Unfit k) breaks kind = breaks.1 (fits k breaks.0)
  unbroken (Busy f s) breaks kind = breaks.2 (apart f s breaks.0 breaks.1)
  unbroken (Early p) breaks kind = not_early p breaks.0 breaks.1
  unbroken (Gap f s) breaks kind = not_soon f s breaks.0 breaks.1 breaks.2
  unbroken (StockLow s t) breaks early = not_low s t breaks.0 breaks.1 early breaks.2
  unbroken (StockHigh s t) breaks early = not_high s t breaks.0 breaks.1 early breaks.2
  unbroken (Load u t) breaks kind = not_over u t breaks.0 breaks.1 breaks.2

pub lost : (plant : Plant) (before : List Start) (period : ℕ) → All (λ start. start.period < period) before → (v : Violation) → Breaks plant before v → IsUnmended period v → IsLost plant before period
lost plant before period earlier v breaks kind plan feasible = unbroken plant before period plan earlier feasible v breaks kind
