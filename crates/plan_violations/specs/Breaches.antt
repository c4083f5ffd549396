-- Everything that a plan breaks, with amounts, in the order in which a simulation looks for it.
use Rattle.std.specs.Prelude.{ℕ, ℤ, pos, ◌+◌, ◌-◌, ◌-ℤ◌, int_lt, unsigned_abs, ◌==◌, ◌&&◌, not, nat_lt, min, max, Bool, if◌then◌else◌, List, [], ◌∷◌, ◌++◌, length, drop, position, Option, Some, None, slice_get, slice_index}
use Rattle.std.specs.Option.{is_some, option_map}
use Rattle.stn_model.specs.declared.plant.Plant.{Plant}
use Rattle.stn_model.specs.declared.start.Start.{Start}
use Rattle.stn_model.specs.Plant.{state_at, utility_at, run_on, end_of, gap_between, ready_at}
use Rattle.stn_model.specs.Fits.{has_size, is_fit}
use Rattle.stn_model.specs.Batches.{is_first, is_next}
use Rattle.stn_model.specs.Stock.{stock}
use Rattle.stn_model.specs.Load.{load}
use Rattle.stn_model.specs.Violations.{start_at}
use Rattle.plan_violations.specs.declared.breach.Misfit.{Misfit}
use Rattle.plan_violations.specs.declared.breach.Misfit.TheVariants.{Run, Size, Horizon, Outage}
use Rattle.plan_violations.specs.declared.breach.Breach.{Breach}
use Rattle.plan_violations.specs.declared.breach.Breach.TheVariants.{Unfit, Busy, Early, Gap, StockLow, StockHigh, Load}
use Rattle.plan_violations.specs.Lists.{listed, listed_amount, listed_below}

-- Why a start does not fit, the first reason that holds: its unit can't run its task, the run has no batch of
-- this size, the batch ends after the horizon, or the unit is out of use.
unfoldable pub misfit_of : Plant → Start → Misfit
misfit_of plant start =
    if not (is_some (run_on plant start.task start.unit)) then Run
    else if not (has_size start.quanta (run_on plant start.task start.unit)) then Size
    else if nat_lt plant.periods (end_of plant start) then Horizon
    else Outage

-- the start at a place, where it does not fit
unfoldable pub unfit_at : Plant → List Start → ℕ → List Breach
unfit_at plant plan place =
    if is_fit plant (start_at plan place) then [] else Unfit place (misfit_of plant (start_at plan place)) ∷ []

-- two batches meet: they are on one unit, and run in a common period
unfoldable pub meets : Plant → Start → Start → Bool
meets plant a b = a.unit == b.unit && nat_lt (max a.period b.period) (min (end_of plant a) (end_of plant b))

-- the least place after this one whose batch meets the one here
unfoldable pub meeting_after : Plant → List Start → ℕ → Option ℕ
meeting_after plant plan place =
    option_map (λ k. place + 1 + k) (position (meets plant (start_at plan place)) (drop (place + 1) plan))

-- the batch at a place with the first later one that it meets
unfoldable pub busy_at : Plant → List Start → ℕ → List Breach
busy_at plant plan place = listed (λ second. Busy place second) (meeting_after plant plan place)

-- by how many periods a batch begins before its unit is ready after the batch that held it last, 0 where it waits for that
unfoldable pub unready_by : Plant → Start → ℕ
unready_by plant b = ready_at plant b.unit b.task - b.period

-- the batch at a place, where it comes first on its unit, and before the unit is ready
unfoldable pub early_at : Plant → List Start → ℕ → List Breach
early_at plant plan place =
    if is_first plan (start_at plan place)
    then listed_amount (λ early. Early place early) (unready_by plant (start_at plan place)) else []

-- by how many periods a next batch comes before the unit is cleaned of a, 0 where it waits for that
unfoldable pub early_by : Plant → Start → Start → ℕ
early_by plant a b = end_of plant a + gap_between plant a.unit a.task b.task - b.period

-- b is a next start on the unit of a, comes before the unit is cleaned, and does not meet a
unfoldable pub comes_early : Plant → List Start → Start → Start → Bool
comes_early plant plan a b = is_next plan a b && nat_lt 0 (early_by plant a b) && not (meets plant a b)

-- the batch at a place with the first of its next ones that comes too early, before or after it in the plan
unfoldable pub gap_at : Plant → List Start → ℕ → List Breach
gap_at plant plan place =
    listed (λ second. Gap place second (early_by plant (start_at plan place) (start_at plan second)))
    (position (comes_early plant plan (start_at plan place)) plan)

-- how much the one is above the other, 0 where it is not
abbrev pub excess : ℤ → ℤ → ℕ
excess one other = if int_lt other one then unsigned_abs (one -ℤ other) else 0

-- how much a stock is above its limit, 0 where there is none
abbrev pub above : ℤ → Option ℕ → ℕ
above level None = 0
above level (Some limit) = excess level (pos limit)

-- what a stock of this level breaks in a state at a time: it is below 0, or above the limit
abbrev pub of_level : Plant → ℕ → ℕ → ℤ → List Breach
of_level plant time state level =
    listed_amount (λ short. StockLow state time short) (excess (pos 0) level)
    ++ listed_amount (λ over. StockHigh state time over) (above level (slice_get (state_at plant state).limits time))

-- what a load of this size breaks in a period: it is above the utility's limit
abbrev pub of_load : Plant → ℕ → ℕ → ℕ → List Breach
of_load plant period utility drawn =
    listed_amount (λ over. Load utility period over) (drawn - slice_index (utility_at plant utility).limits period)

-- what the stock of a state breaks at a time
unfoldable pub stock_at : Plant → List Start → ℕ → ℕ → List Breach
stock_at plant plan time state = of_level plant time state (stock plant plan state time)

-- what the load of a utility breaks in a period
unfoldable pub load_at : Plant → List Start → ℕ → ℕ → List Breach
load_at plant plan period utility = of_load plant period utility (load plant plan utility period)

-- the stocks at a time, and then the loads of the period that begins there
unfoldable pub amounts_at : Plant → List Start → ℕ → List Breach
amounts_at plant plan time =
    listed_below (stock_at plant plan time) (length plant.states)
    ++ (if nat_lt time plant.periods then listed_below (load_at plant plan time) (length plant.utilities) else [])

-- the starts that do not fit, the batches that meet later ones, the first batches that their units are not ready for, and
-- the batches whose next ones come too early
unfoldable pub of_units : Plant → List Start → List Breach
of_units plant plan =
    listed_below (unfit_at plant plan) (length plan)
    ++ listed_below (busy_at plant plan) (length plan)
    ++ listed_below (early_at plant plan) (length plan)
    ++ listed_below (gap_at plant plan) (length plan)

-- Everything that a plan breaks: what its starts break on their units, and then time by time the stocks and
-- the loads, to which starts that do not fit count too.
unfoldable pub breaches : Plant → List Start → List Breach
breaches plant plan = of_units plant plan ++ listed_below (amounts_at plant plan) (plant.periods + 1)
