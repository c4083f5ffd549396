-- What a plan breaks, and which violation comes first.
use Rattle.std.specs.Prelude.{◌≡◌, ℕ, suc, pos, ◌+◌, ◌<◌, ◌≤◌, ◌<ℤ◌, ◌⊎◌, IsTrue, IsSomeAnd, List, [], ◌∷◌, length, slice_get, slice_index, slice_index_or}
use Rattle.stn_model.specs.declared.plant.Plant.{Plant}
use Rattle.stn_model.specs.declared.start.Start.{Start}
use Rattle.stn_model.specs.declared.violation.Violation.{Violation}
use Rattle.stn_model.specs.declared.violation.Violation.TheVariants.{Unfit, Busy, Early, Gap, StockLow, StockHigh, Load}
use Rattle.stn_model.specs.Plant.{state_at, utility_at, end_of, gap_between, ready_at}
use Rattle.stn_model.specs.Fits.{Fits}
use Rattle.stn_model.specs.Batches.{Apart, is_first, is_next}
use Rattle.stn_model.specs.Stock.{stock}
use Rattle.stn_model.specs.Load.{load}

-- a start of nothing, in the place of one that is not there
abbrev pub no_start : Start
no_start = record { period = 0; unit = 0; task = 0; quanta = 0 }

-- the start at this place of the plan
abbrev pub start_at : List Start → ℕ → Start
start_at plan place = slice_index_or plan place no_start

-- the batch b is a next one on the unit of a, and begins before the unit is cleaned
pub record TooSoon (plant : Plant) (plan : List Start) (a b : Start) : Type 0 where
  pub next : IsTrue (is_next plan a b)
  pub soon : b.period < end_of plant a + gap_between plant a.unit a.task b.task

-- the batch is the first on its unit, and begins before the unit is ready after the batch that held it last
pub record TooEarly (plant : Plant) (plan : List Start) (b : Start) : Type 0 where
  pub first : IsTrue (is_first plan b)
  pub early : b.period < ready_at plant b.unit b.task

-- the plan breaks this
abbrev pub Breaks : Plant → List Start → Violation → Type 0
Breaks plant plan (Unfit place) = (place < length plan) × (¬ Fits plant (start_at plan place))
Breaks plant plan (Busy first second) = (first < second) × (second < length plan) × (¬ Apart plant (start_at plan first) (start_at plan second))
Breaks plant plan (Early place) = (place < length plan) × TooEarly plant plan (start_at plan place)
Breaks plant plan (Gap first second) = (first < length plan) × (second < length plan) × TooSoon plant plan (start_at plan first) (start_at plan second)
Breaks plant plan (StockLow state time) = (state < length plant.states) × (time ≤ plant.periods) × (stock plant plan state time <ℤ pos 0)
Breaks plant plan (StockHigh state time) = (state < length plant.states) × (time ≤ plant.periods) × IsSomeAnd (slice_get (state_at plant state).limits time) (λ limit. pos limit <ℤ stock plant plan state time)
Breaks plant plan (Load utility period) = (utility < length plant.utilities) × (period < plant.periods) × (slice_index (utility_at plant utility).limits period < load plant plan utility period)

-- the order in which violations are looked for: starts that do not fit, pairs that meet, first batches
-- that are early, pairs without cleaning, and then time by time the states and after them the utilities
abbrev pub order_of : Violation → List ℕ
order_of (Unfit place) = 0 ∷ place ∷ []
order_of (Busy first second) = 1 ∷ first ∷ second ∷ []
order_of (Early place) = 2 ∷ 0 ∷ place ∷ []
order_of (Gap first second) = 2 ∷ suc first ∷ second ∷ []
order_of (StockLow state time) = 3 ∷ time ∷ 0 ∷ state ∷ []
order_of (StockHigh state time) = 3 ∷ time ∷ 0 ∷ state ∷ []
order_of (Load utility period) = 3 ∷ period ∷ 1 ∷ utility ∷ []

-- the one list of numbers comes before the other, by the first place where they differ
abbrev pub Before : List ℕ → List ℕ → Type 0
Before [] ys = ⊥
Before (x ∷ xs) [] = ⊥
Before (x ∷ xs) (y ∷ ys) = (x < y) ⊎ ((x ≡ y) × Before xs ys)

-- the plan breaks this, and nothing that comes before it
pub record BreaksFirst (plant : Plant) (plan : List Start) (violation : Violation) : Type 0 where
  pub breaks : Breaks plant plan violation
  pub first : (other : Violation) → Breaks plant plan other → ¬ Before (order_of other) (order_of violation)
