-- What a planner reads in a picture: which batches a unit runs in a period, which batch a bar is, and what is in stock at a time.
use Rattle.std.specs.Prelude.{◌≡◌, ℕ, pos, ◌+◌, ◌/◌, ◌^◌, ◌<◌, ◌==◌, ◌&&◌, nat_le, nat_lt, Bool, IsTrue, List, ◌++◌, length, filter, flat_map, slice_index_or}
use Rattle.stn_model.specs.declared.plant.Plant.{Plant}
use Rattle.stn_model.specs.declared.start.Start.{Start}
use Rattle.stn_model.specs.Plant.{end_of}
use Rattle.stn_model.specs.Stock.{stock}
use Rattle.stn_model.specs.Load.{load}
use Rattle.plan_picture.specs.declared.marks.Frame.{Frame}
use Rattle.plan_picture.specs.Captions.{task_caption}
use Rattle.plan_picture.specs.Scale.{band_count, time_of, periods_in, band_part, x_at, unit_top}
use Rattle.plan_picture.specs.Bars.{is_seen, bar_title, bar_frame, whole_bar}
use Rattle.plan_picture.specs.Graphs.{stocks_of, loads_of}
use Rattle.plan_picture.specs.Picture.{picture_text}

-- a pixel lies in a frame
abbrev pub holds : Frame → ℕ → ℕ → Bool
holds frame x y = nat_le frame.x x && nat_lt x (frame.x + frame.width) && nat_le frame.y y && nat_lt y (frame.y + frame.height)

-- in its band a batch has a bar, which stands at this place of the axis in the row of this unit
abbrev pub stands_at : Plant → ℕ → ℕ → ℕ → Start → Bool
stands_at plant band unit place start =
    is_seen plant band start.period (end_of plant start)
    && holds (bar_frame plant band start) (x_at plant place) (unit_top unit + 1)

-- the unit runs the batch in this period
abbrev pub runs_in : Plant → ℕ → ℕ → Start → Bool
runs_in plant unit period start = start.unit == unit && nat_le start.period period && nat_lt period (end_of plant start)

-- In the row of each unit, over each period, stand the bars of the batches that the unit runs then, and no other.
abbrev pub BarsAreBatches : Plant → List Start → Type 0
BarsAreBatches plant plan =
    (band unit place : ℕ) → place < periods_in plant band
    → filter (stands_at plant band unit place) plan ≡ filter (runs_in plant unit (time_of band place)) plan

-- a text stands in another
abbrev pub StandsIn : List ℕ → List ℕ → Type 0
StandsIn part text = (before : List ℕ) × ((after : List ℕ) × (text ≡ before ++ (part ++ after)))

-- the band shows something of the batch
abbrev pub is_shown : Plant → ℕ → Start → Bool
is_shown plant band start = is_seen plant band start.period (end_of plant start)

-- the bars of a band: one for each batch of the plan that it shows something of, in the plan's order
abbrev pub bars_of : Plant → List Start → ℕ → List ℕ
bars_of plant plan band = flat_map (whole_bar plant band) (filter (is_shown plant band) plan)

-- each number of a start has at most 32 bits
abbrev pub IsSmall : Start → Type 0
IsSmall start = (start.period < 2 ^ 32) × (start.unit < 2 ^ 32) × (start.task < 2 ^ 32) × (start.quanta < 2 ^ 32)

-- two batches are of one task, by what it is called, and of one size, from one time to one time
abbrev pub AreAlike : Plant → Start → Start → Type 0
AreAlike plant a b =
    (task_caption plant a.task ≡ task_caption plant b.task)
    × (a.quanta ≡ b.quanta) × (a.period ≡ b.period) × (end_of plant a ≡ end_of plant b)

-- Each batch of the plan has one bar in each band that shows something of it, and the bar tells what its task is called, its size, its start and its end.
pub record BarsTellBatches (plant : Plant) (plan : List Start) : Type 0 where
  -- in the text of the picture stand, for each band, the bars of exactly the batches that it shows something of, each once
  pub bars : (band : ℕ) → band < band_count plant → StandsIn (bars_of plant plan band) (picture_text plant plan)
  -- the band of its start shows each batch of a task of the plant that begins within the horizon
  pub shown : (start : Start) → start.task < length plant.tasks → start.period < plant.periods
      → (start.period / 48 < band_count plant) × IsTrue (is_shown plant (start.period / 48) start)
  -- by its title alone, which a pointer shows, a bar tells what its task is called, its size, its start and its end
  pub titles : (a b : Start) → IsSmall a → IsSmall b → bar_title plant a ≡ bar_title plant b → AreAlike plant a b
  -- in no band have two batches the same bar
  pub alone : (a b : Start) → IsSmall a → IsSmall b → (band : ℕ) → whole_bar plant band a ≡ whole_bar plant band b → a ≡ b

-- The step at each place of each state's row is the stock at its time.
abbrev pub StepsAreStocks : Plant → List Start → Type 0
StepsAreStocks plant plan =
    (band state place : ℕ) → place < length (band_part plant band (stocks_of plant plan state))
    → slice_index_or (band_part plant band (stocks_of plant plan state)) place (pos 0) ≡ stock plant plan state (time_of band place)

-- The step at each place of each utility's row is the load in its period.
abbrev pub StepsAreLoads : Plant → List Start → Type 0
StepsAreLoads plant plan =
    (band utility place : ℕ) → place < length (band_part plant band (loads_of plant plan utility))
    → slice_index_or (band_part plant band (loads_of plant plan utility)) place (pos 0) ≡ pos (load plant plan utility (time_of band place))
