-- How many choices a plant has, without regard to stocks and loads.
use Rattle.std.specs.Prelude.{ℕ, ◌+◌, ◌-◌, ◌*◌, ◌==◌, ◌&&◌, nat_le, nat_lt, Bool, if◌then◌else◌, sum_by}
use Rattle.stn_model.specs.declared.plant.Plant.{Plant}
use Rattle.stn_model.specs.declared.plant.Run.{Run}
use Rattle.stn_model.specs.declared.start.Start.{Start}
use Rattle.stn_model.specs.Plant.{task_at, duration_of, gap_between}
use Rattle.stn_model.specs.Fits.{is_fit}
use Rattle.stn_model.specs.Sums.{product_by, product_below, sum_below, count_below}

-- the start of a run in a period with its least batch
abbrev pub least_start : Run → ℕ → Start
least_start run period = record { period = period; unit = run.unit; task = run.task; quanta = run.min }

-- some start of the run fits in the period: the one with its least batch does
unfoldable pub has_slot : Plant → Run → ℕ → Bool
has_slot plant run period = is_fit plant (least_start run period)

-- how many choices there are for a run in a period: no start, or one of each size
unfoldable pub choices : Plant → Run → ℕ → ℕ
choices plant run period = if has_slot plant run period then run.max - run.min + 2 else 1

-- how many choices there are for all runs and periods together
unfoldable pub points : Plant → ℕ
points plant = product_by (λ run. product_below (choices plant run) plant.periods) plant.runs

-- how many boxes a search needs at most: each split leaves two boxes with fewer points
unfoldable pub boxes : Plant → ℕ
boxes plant = 2 * points plant - 1

-- how many periods have a slot of the run
unfoldable pub slots_of : Plant → Run → ℕ
slots_of plant run = count_below (has_slot plant run) plant.periods

-- how many slots the plant has: pairs of a run and a period in which some start of it fits
unfoldable pub slot_count : Plant → ℕ
slot_count plant = sum_by (slots_of plant) plant.runs

-- a start of the second run in period q would come after the first run's in period p, on one unit, but too soon for the cleaning
unfoldable pub meets_gap : Plant → Run → ℕ → Run → ℕ → Bool
meets_gap plant a p b q =
    let ending = p + duration_of (task_at plant a.task)
    in a.unit == b.unit && has_slot plant a p && has_slot plant b q && nat_le ending q && nat_lt q (ending + gap_between plant a.unit a.task b.task)

-- how many pairs of slots the cleaning keeps apart
unfoldable pub gap_pairs : Plant → ℕ
gap_pairs plant = sum_by (λ a. sum_below (λ p. sum_by (λ b. count_below (meets_gap plant a p b) plant.periods) plant.runs) plant.periods) plant.runs

-- how many slots a program over the plant may have, those of sums and setups among them: 512, or 4,096 where the plant is large
abbrev pub slot_limit : Plant → ℕ
slot_limit plant = if plant.large then 4096 else 512

-- how many splits of a log over the plant may stand one below another: nine for each slot that there may be
abbrev pub depth_limit : Plant → ℕ
depth_limit plant = if plant.large then 36864 else 4608
