-- A table of what runs, by units and periods, and the batches that meet.
use Rattle.std.specs.Prelude.{◌≡◌, ℕ, ◌+◌, ◌<◌, ◌≤◌, ◌⊎◌, ◌==◌, ◌&&◌, nat_lt, nat_le, Bool, true, false, if◌then◌else◌, List, length, slice_index}
use Rattle.stn_model.specs.declared.plant.Plant.{Plant}
use Rattle.stn_model.specs.declared.start.Start.{Start}
use Rattle.stn_model.specs.Plant.{end_of}
use Rattle.stn_model.specs.Violations.{start_at}
use Rattle.plan_sim.specs.Moves.{cell}
use Rattle.plan_violations.specs.Breaches.{meets}

-- the batch runs on a unit in a period
unfoldable pub runs_in : Plant → ℕ → ℕ → Start → Bool
runs_in plant unit period start = start.unit == unit && nat_le start.period period && nat_lt period (end_of plant start)

-- the first place from one on whose start passes a test; the length of the plan stands for none
pub record IsFirst (test : Start → Bool) (plan : List Start) (from place : ℕ) : Type 0 where
  pub within : place ≤ length plan
  pub later : from ≤ place
  pub before : (k : ℕ) → from ≤ k → k < place → test (start_at plan k) ≡ false
  pub here : place < length plan → test (start_at plan place) ≡ true

-- the table has for each unit and period the first place from one on whose batch runs there
abbrev pub IsRunTable : Plant → List Start → ℕ → ℕ → List ℕ → Type 0
IsRunTable plant plan width from cells = (unit period : ℕ) → unit < length plant.units → period < width → IsFirst (runs_in plant unit period) plan from (cell cells width unit period)

-- the first place after this one whose batch meets the one here
abbrev pub IsMeeting : Plant → List Start → ℕ → ℕ → Type 0
IsMeeting plant plan place second = IsFirst (meets plant (start_at plan place)) plan (place + 1) second

-- for each place from one on, the list has the first later one whose batch meets the one there
pub record AreMeetings (plant : Plant) (plan : List Start) (from : ℕ) (later : List ℕ) : Type 0 where
  pub size : length later ≡ length plan
  pub met : (place : ℕ) → from ≤ place → place < length plan → IsMeeting plant plan place (slice_index later place)

-- the value stands in a row at a column of a range
pub record StandsIn (cells : List ℕ) (width row from to value : ℕ) : Type 0 where
  pub column : ℕ
  pub low : from ≤ column
  pub high : column < to
  pub is : value ≡ cell cells width row column

-- the least value of a row over a range of columns, and no more than a bound
pub record IsLeastIn (cells : List ℕ) (width row from to bound value : ℕ) : Type 0 where
  pub most : value ≤ bound
  pub least : (column : ℕ) → from ≤ column → column < to → value ≤ cell cells width row column
  pub some : (value ≡ bound) ⊎ StandsIn cells width row from to value

-- what stands at a row and a column, after a value was put in a row over a range of columns
abbrev pub put_in : List ℕ → ℕ → ℕ → ℕ → ℕ → ℕ → ℕ → ℕ → ℕ
put_in cells width row from to value r c =
    if row == r && nat_le from c && nat_lt c to then value else cell cells width r c
