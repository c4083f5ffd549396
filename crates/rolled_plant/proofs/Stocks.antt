-- The stocks of the rolled plant are those of the plant.
use Rattle.std.proofs.Common.{◌≡◌, ℕ, zero, suc, ◌+◌, ◌-◌, ◌<◌, ◌≤◌, List, [], ◌∷◌, length, drop, min, sum_by, refl, sym, ap, ◌∙◌, subst, arith}
use Rattle.std.specs.Prelude.{ℤ, pos, ◌≤ℤ◌, ◌-ℤ◌, IfSome, Option, None, slice_get}
use Rattle.std.proofs.lemmas.Int.{ints}
use Rattle.stn_model.specs.declared.plant.Plant.{Plant}
use Rattle.stn_model.specs.declared.plant.State.{State}
use Rattle.stn_model.specs.declared.start.Start.{Start}
use Rattle.stn_model.specs.Plant.{state_at, no_state}
use Rattle.stn_model.specs.Stock.{given, taken, received, delivered, inflow, outflow, stock}
use Rattle.stn_model.specs.Feasible.{StockKept}
use Rattle.rolled_plant.specs.Kept.{joined, IsMendable}
use Rattle.rolled_plant.specs.Begin.{inflow_before, outflow_before, stock_before}
use Rattle.rolled_plant.specs.RolledPlant.{rolled_plant, rolled_state}
use Rattle.rolled_plant.proofs.Basics.{get_or-map_zero, length-map_from}
use Rattle.rolled_plant.proofs.Given.{sum_by-joined, sum_by-joined_none, given_later, given_none, taken_later, taken_none}
use Rattle.rolled_plant.proofs.Arriving.{received_later, outflow_later}

-- a state of the rolled plant
pub state_is : (plant : Plant) (before : List Start) (period state : ℕ) → state < length plant.states → state_at (rolled_plant plant before period) state ≡ rolled_state plant before period state (state_at plant state)
unfolding rolled_plant
state_is plant before period state there = get_or-map_zero (rolled_state plant before period) plant.states state no_state no_state there

-- there are as many
pub states_are : (plant : Plant) (before : List Start) (period : ℕ) → length (rolled_plant plant before period).states ≡ length plant.states
unfolding rolled_plant
states_are plant before period = length-map_from (rolled_state plant before period) 0 plant.states

inflow_joined : (plant : Plant) (before : List Start) (period : ℕ) (plan : List Start) (state time : ℕ)
    → inflow plant (joined before period plan) state (period + time) ≡ inflow plant before state (period + time) + sum_by (given (rolled_plant plant before period) state time) plan
unfolding inflow
inflow_joined plant before period plan state time =
    let gives = sum_by-joined (given plant state (period + time)) (given (rolled_plant plant before period) state time) before period plan (given_later plant before period state time) in
    omega (arith, gives)

outflow_joined : (plant : Plant) (before : List Start) (period : ℕ) (plan : List Start) (state time : ℕ)
    → outflow plant (joined before period plan) state (period + time) ≡ outflow plant before state (period + time) + sum_by (taken (rolled_plant plant before period) state time) plan
unfolding outflow
outflow_joined plant before period plan state time =
    let takes = sum_by-joined (taken plant state (period + time)) (taken (rolled_plant plant before period) state time) before period plan (taken_later plant before period state time) in
    omega (arith, takes)

inflow_rolled : (plant : Plant) (before : List Start) (period : ℕ) (plan : List Start) (state time : ℕ) → state < length plant.states
    → inflow (rolled_plant plant before period) plan state time
    ≡ min (stock_before plant before state period) 1000000000 + received (rolled_plant plant before period) state time + sum_by (given (rolled_plant plant before period) state time) plan
unfolding inflow
inflow_rolled plant before period plan state time there =
    ap (λ (n : ℕ). n + received (rolled_plant plant before period) state time + sum_by (given (rolled_plant plant before period) state time) plan)
    (ap (λ (s : State). s.initial) (state_is plant before period state there))

outflow_rolled : (plant : Plant) (before : List Start) (period : ℕ) (plan : List Start) (state time : ℕ)
    → outflow (rolled_plant plant before period) plan state time ≡ delivered (rolled_plant plant before period) state time + sum_by (taken (rolled_plant plant before period) state time) plan
unfolding outflow
outflow_rolled plant before period plan state time = refl

-- no more had gone out before the period than had come in
enough : (plant : Plant) (before : List Start) (period state : ℕ) → IsMendable plant before period → state < length plant.states → outflow_before plant before state period ≤ inflow_before plant before state period
unfolding stock
enough plant before zero state on there = omega arith
enough plant before (suc time) state on there =
    let low : pos 0 ≤ℤ (pos (inflow plant before state time) -ℤ pos (outflow plant before state time)) = (on.stocks state time there (omega arith)).low in
    omega (arith, ints, low)

-- from the period on the stocks of the rolled plant are those of the plant
pub stock_later : (plant : Plant) (before : List Start) (period : ℕ) (plan : List Start) (state time : ℕ) → IsMendable plant before period → state < length plant.states → time ≤ plant.periods - period
    → stock (rolled_plant plant before period) plan state time ≡ stock plant (joined before period plan) state (period + time)
unfolding stock stock_before
stock_later plant before period plan state time on there within =
    let in_here = inflow_rolled plant before period plan state time there in
    let out_here = outflow_rolled plant before period plan state time in
    let in_there = inflow_joined plant before period plan state time in
    let out_there = outflow_joined plant before period plan state time in
    let comes = received_later plant before period state time there within in
    let goes = outflow_later plant before period state time on.earlier in
    let least = enough plant before period state on there in
    omega (arith, ints, in_here, out_here, in_there, out_there, comes, goes, least)

-- before it they are those of the starts before alone
pub stock_early : (plant : Plant) (before : List Start) (period : ℕ) (plan : List Start) (state time : ℕ) → time < period
    → stock plant (joined before period plan) state time ≡ stock plant before state time
unfolding stock inflow outflow
stock_early plant before period plan state time early =
    let gives = sum_by-joined_none (given plant state time) before period plan (λ x. given_none plant period state time x early) in
    let takes = sum_by-joined_none (taken plant state time) before period plan (λ x. taken_none plant period state time x early) in
    omega (arith, ints, gives, takes)

-- ---- stocks are kept on the rolled plant where the plant keeps them

-- the limit at a time is that of the plant so many periods later
slice_get-drop : {X : Type 0} (n : ℕ) (xs : List X) (k : ℕ) → slice_get (drop n xs) k ≡ slice_get xs (n + k)
slice_get-drop zero xs k = let e : k ≡ 0 + k = omega arith in ap (slice_get xs) e
slice_get-drop (suc n) [] k = none (suc n + k)
  where
    none : {X : Type 0} (k : ℕ) → None ≡ slice_get {X = X} [] k
    none k = refl
slice_get-drop (suc n) (x ∷ xs) k =
    let e : suc (n + k) ≡ suc n + k = omega arith in
    slice_get-drop n xs k ∙ ap (slice_get (x ∷ xs)) e

limit_is : (plant : Plant) (before : List Start) (period state time : ℕ) → state < length plant.states
    → slice_get (state_at (rolled_plant plant before period) state).limits time ≡ slice_get (state_at plant state).limits (period + time)
limit_is plant before period state time there =
    ap (λ (s : State). slice_get s.limits time) (state_is plant before period state there)
    ∙ slice_get-drop period (state_at plant state).limits time

within_limit : (o p : Option ℕ) (x y : ℤ) → o ≡ p → x ≡ y → IfSome o (λ limit. x ≤ℤ pos limit) → IfSome p (λ limit. y ≤ℤ pos limit)
within_limit o p x y same equal h = subst (λ (z : ℤ). IfSome p (λ limit. z ≤ℤ pos limit)) equal (subst (λ (q : Option ℕ). IfSome q (λ limit. x ≤ℤ pos limit)) same h)

-- the stock of the rolled plant is kept where the plant's is
pub kept_here : (plant : Plant) (before : List Start) (period : ℕ) (plan : List Start) (state time : ℕ) → IsMendable plant before period → state < length plant.states → time ≤ plant.periods - period
    → StockKept plant (joined before period plan) state (period + time) → StockKept (rolled_plant plant before period) plan state time
kept_here plant before period plan state time on there within kept =
    let same = stock_later plant before period plan state time on there within in
    record {
      low = subst (λ (z : ℤ). pos 0 ≤ℤ z) (sym same) kept.low;
      high = within_limit (slice_get (state_at plant state).limits (period + time)) (slice_get (state_at (rolled_plant plant before period) state).limits time)
          (stock plant (joined before period plan) state (period + time)) (stock (rolled_plant plant before period) plan state time)
          (sym (limit_is plant before period state time there)) (sym same) kept.high;
    }

-- the plant's stock is kept where that of the rolled plant is
pub kept_there : (plant : Plant) (before : List Start) (period : ℕ) (plan : List Start) (state time : ℕ) → IsMendable plant before period → state < length plant.states → time ≤ plant.periods - period
    → StockKept (rolled_plant plant before period) plan state time → StockKept plant (joined before period plan) state (period + time)
kept_there plant before period plan state time on there within kept =
    let same = stock_later plant before period plan state time on there within in
    record {
      low = subst (λ (z : ℤ). pos 0 ≤ℤ z) same kept.low;
      high = within_limit (slice_get (state_at (rolled_plant plant before period) state).limits time) (slice_get (state_at plant state).limits (period + time))
          (stock (rolled_plant plant before period) plan state time) (stock plant (joined before period plan) state (period + time))
          (limit_is plant before period state time there) same kept.high;
    }

-- a stock before the period is kept where the starts before keep it
pub kept_early : (plant : Plant) (before : List Start) (period : ℕ) (plan : List Start) (state time : ℕ) → time < period
    → StockKept plant before state time → StockKept plant (joined before period plan) state time
kept_early plant before period plan state time early kept =
    let same = stock_early plant before period plan state time early in
    record {
      low = subst (λ (z : ℤ). pos 0 ≤ℤ z) (sym same) kept.low;
      high = within_limit (slice_get (state_at plant state).limits time) (slice_get (state_at plant state).limits time)
          (stock plant before state time) (stock plant (joined before period plan) state time) refl (sym same) kept.high;
    }
