-- Tables of the slots of a plant, and its pairs of slots run by run.
use Rattle.std.specs.Prelude.{◌≡◌, ℕ, ◌<◌, ◌≤◌, Bool, false, List, [], length, slice_index_or}
use Rattle.stn_model.specs.declared.plant.Plant.{Plant}
use Rattle.stn_model.specs.declared.plant.Run.{Run}
use Rattle.stn_model.specs.Sums.{sum_below, count_below}
use Rattle.stn_model.specs.Points.{has_slot, meets_gap}

-- the row says of each period whether it has a slot of the run
pub record IsRow (plant : Plant) (run : Run) (row : List Bool) : Type 0 where
  pub all : plant.periods ≤ length row
  pub each : (k : ℕ) → k < plant.periods → slice_index_or row k false ≡ has_slot plant run k

-- each run has its row, in the order of the runs
pub record AreRows (plant : Plant) (runs : List Run) (rows : List (List Bool)) : Type 0 where
  pub all : length runs ≤ length rows
  pub each : (i : ℕ) (run : Run) → i < length runs → IsRow plant (slice_index_or runs i run) (slice_index_or rows i [])

-- how many pairs of slots of the two runs the cleaning keeps apart
unfoldable pub pairs_between : Plant → Run → Run → ℕ
pairs_between plant a b = sum_below (λ p. count_below (meets_gap plant a p b) plant.periods) plant.periods
