-- The table of the units: how many periods each runs, is out of use, is cleaned and is idle.
use Rattle.std.specs.Prelude.{◌≡◌, ℕ, ◌+◌, ◌<◌, ◌&&◌, ◌||◌, not, nat_le, nat_lt, if◌then◌else◌, Bool, List, ◌∷◌, ◌++◌, length, map, flat_map, sum_by, codes, decimal}
use Rattle.std.specs.List.{range_with_len, list_any}
use Rattle.stn_model.specs.declared.plant.Plant.{Plant}
use Rattle.stn_model.specs.declared.start.Start.{Start}
use Rattle.stn_model.specs.Plant.{unit_at, end_of, gap_between, held_until, ready_at, is_in_use}
use Rattle.stn_model.specs.Batches.{is_first, is_next}
use Rattle.stn_model.specs.Profit.{change_costs}
use Rattle.stn_model.specs.Sums.{greatest_by, count_below}
use Rattle.plan_tables.specs.declared.cleanings.Cleaning.{Cleaning}
use Rattle.plan_tables.specs.Batches.{on_unit, in_order, charge}

-- a batch has started by a period and not ended by it
abbrev pub goes_on : Plant → ℕ → Start → Bool
goes_on plant period start = nat_le start.period period && nat_lt period (end_of plant start)

-- the batch that held the unit last goes on in a period, or one of the unit's batches does
abbrev pub is_running : Plant → List Start → ℕ → ℕ → Bool
is_running plant batches unit period = nat_lt period (held_until plant unit) || list_any (goes_on plant period) batches

-- the time until which the unit is cleaned between a batch and b, where b is the next one; else 0
abbrev pub cleaned_for : Plant → List Start → Start → Start → ℕ
cleaned_for plant batches a b = if is_next batches a b then end_of plant a + gap_between plant a.unit a.task b.task else 0

-- the cleaning after a batch of a unit: from its end until the gap to its next one is over
unfoldable pub cleaning_after : Plant → List Start → Start → Cleaning
cleaning_after plant batches a = record { from = end_of plant a; until = greatest_by (cleaned_for plant batches a) batches }

-- the time until which the unit is cleaned before b, where b comes first on it; else 0
abbrev pub cleaned_before : Plant → List Start → Start → ℕ
cleaned_before plant batches b = if is_first batches b then ready_at plant b.unit b.task else 0

-- the cleaning after the batch that held the unit last: from its end until the unit is ready for its first batch
unfoldable pub first_cleaning : Plant → List Start → ℕ → Cleaning
first_cleaning plant batches unit = record { from = held_until plant unit; until = greatest_by (cleaned_before plant batches) batches }

-- the cleanings of a unit: one before its first batch, and one after each batch
abbrev pub cleanings_of : Plant → List Start → ℕ → List Cleaning
cleanings_of plant batches unit = first_cleaning plant batches unit ∷ map (cleaning_after plant batches) batches

-- a period lies in a cleaning
abbrev pub lies_in : ℕ → Cleaning → Bool
lies_in period cleaning = nat_le cleaning.from period && nat_lt period cleaning.until

-- the unit is cleaned in a period
abbrev pub is_cleaned : Plant → List Start → ℕ → ℕ → Bool
is_cleaned plant batches unit period = list_any (lies_in period) (cleanings_of plant batches unit)

-- the unit is in use in a period: none of its outages has it
abbrev pub is_there : Plant → ℕ → ℕ → Bool
is_there plant unit period = is_in_use plant unit period (period + 1)

-- how many periods the unit runs
unfoldable pub running_periods : Plant → List Start → ℕ → ℕ → ℕ
running_periods plant batches unit periods = count_below (is_running plant batches unit) periods

-- how many periods it is out of use, and not running
unfoldable pub out_periods : Plant → List Start → ℕ → ℕ → ℕ
out_periods plant batches unit periods = count_below (λ period. not (is_running plant batches unit period) && not (is_there plant unit period)) periods

-- how many periods it is cleaned, and neither running nor out of use
unfoldable pub cleaning_periods : Plant → List Start → ℕ → ℕ → ℕ
cleaning_periods plant batches unit periods =
    count_below (λ period. not (is_running plant batches unit period) && (is_there plant unit period && is_cleaned plant batches unit period)) periods

-- how many periods it is idle: none of these
unfoldable pub idle_periods : Plant → List Start → ℕ → ℕ → ℕ
idle_periods plant batches unit periods =
    count_below (λ period. not (is_running plant batches unit period) && (is_there plant unit period && not (is_cleaned plant batches unit period))) periods

-- how many periods a unit spends in each way, after its name
unfoldable pub times_cells : ℕ → ℕ → ℕ → ℕ → List ℕ
times_cells running out cleaning idle = codes "," ++ (decimal running ++ (codes "," ++ (decimal out ++ (codes "," ++ (decimal cleaning ++ (codes "," ++ decimal idle))))))

-- how many batches a unit has, and what its changeovers cost
unfoldable pub totals_cells : ℕ → ℕ → List ℕ
totals_cells batches charged = codes "," ++ (decimal batches ++ (codes "," ++ (decimal charged ++ codes "\n")))

-- what the changeovers to the batches of a unit cost
abbrev pub unit_charges : Plant → List Start → ℕ
unit_charges plant batches = sum_by (charge plant batches) batches

-- the numbers of a unit with these batches: its periods, how many batches it has, and what their changeovers cost
unfoldable pub unit_numbers : Plant → List Start → ℕ → List ℕ
unit_numbers plant batches unit =
    times_cells (running_periods plant batches unit plant.periods) (out_periods plant batches unit plant.periods)
    (cleaning_periods plant batches unit plant.periods) (idle_periods plant batches unit plant.periods)
    ++ totals_cells (length batches) (unit_charges plant batches)

-- the line of a unit
unfoldable pub unit_line : Plant → List Start → ℕ → List ℕ
unit_line plant plan unit = (unit_at plant unit).name ++ unit_numbers plant (on_unit plan unit) unit

-- the head line of the units
unfoldable pub units_head : List ℕ
units_head = codes "unit,running,out,cleaning,idle,batches,changeover\n"

-- the table of the units
abbrev pub units_text : Plant → List Start → List ℕ
units_text plant plan = units_head ++ flat_map (unit_line plant plan) (range_with_len 0 (length plant.units))

-- each period of a unit counts once: it runs, or is out of use, is cleaned or is idle
abbrev pub PeriodsOnce : Plant → List Start → Type 0
PeriodsOnce plant plan =
    (unit : ℕ) → unit < length plant.units
    → running_periods plant (on_unit plan unit) unit plant.periods + (out_periods plant (on_unit plan unit) unit plant.periods
    + (cleaning_periods plant (on_unit plan unit) unit plant.periods + idle_periods plant (on_unit plan unit) unit plant.periods)) ≡ plant.periods

-- The columns of changeovers sum to what the changeovers of the plan cost.
pub record ChargesAreCosts (plant : Plant) (plan : List Start) : Type 0 where
  -- that of the units, over all units
  pub units : sum_by (λ unit. unit_charges plant (on_unit plan unit)) (range_with_len 0 (length plant.units)) ≡ change_costs plant plan
  -- that of the batches, over all batches
  pub batches : sum_by (λ b. charge plant (on_unit plan b.unit) b) (in_order plant plan) ≡ change_costs plant plan
