-- Stocks and loads, each as steps in a row of its own, with limits, numbers, and flags of what comes and goes.
use Rattle.std.specs.Prelude.{ℕ, ◌+◌, ◌-◌, ◌*◌, ◌/◌, ◌%◌, ◌==◌, min, max, ℤ, pos, unsigned_abs, Bool, not, nat_lt, ◌&&◌, ◌||◌, if◌then◌else◌, length, List, [], ◌++◌, map, codes, decimal, flat_map, slice_index, slice_index_or}
use Rattle.std.specs.List.{range_with_len, list_any}
use Rattle.std.specs.Ordering.{int_eq}
use Rattle.std.specs.Fmt.{signed_decimal}
use Rattle.stn_model.specs.declared.plant.Plant.{Plant}
use Rattle.stn_model.specs.declared.start.Start.{Start}
use Rattle.stn_model.specs.Plant.{task_at, state_at, utility_at}
use Rattle.stn_model.specs.Stock.{received, delivered, stock}
use Rattle.stn_model.specs.Load.{load}
use Rattle.stn_model.specs.Sums.{greatest_by, count_below}
use Rattle.plan_picture.specs.Marks.{fitted, box_at}
use Rattle.plan_picture.specs.Scale.{time_of, band_part, period_width, letters_in, x_at, stocks_top, loads_top}
use Rattle.plan_picture.specs.Chart.{part_head, row_name}
use Rattle.plan_picture.specs.Captions.{state_caption, utility_caption}

-- what fills a row: the greatest of its levels and limits, and at least 1
unfoldable pub graph_top : List ℤ → List ℕ → ℕ
graph_top levels limits = max (max 1 (greatest_by unsigned_abs levels)) (greatest_by (λ limit. limit) limits)

-- how high a size is drawn where 20 pixels are the top: its part of them, rounded up
unfoldable pub height_of : ℕ → ℕ → ℕ
height_of top size = (20 * size + (top - 1)) / top

-- a step of a path: up or down to a size, and on for one period
unfoldable pub size_step : Plant → ℕ → ℕ → ℕ → List ℕ
size_step plant y top size = codes "V" ++ (decimal (y + 21 - height_of top size) ++ (codes "h" ++ decimal (period_width plant)))

-- the step of a level
abbrev pub level_step : Plant → ℕ → ℕ → ℤ → List ℕ
level_step plant y top level = size_step plant y top (unsigned_abs level)

-- where a path begins: at this height, right of the names
unfoldable pub path_begin : List ℕ → ℕ → List ℕ
path_begin class y = codes "<path class=\"" ++ (class ++ (codes "\" d=\"M128 " ++ decimal y))

-- where the area of levels ends: at its ground
unfoldable pub level_end : ℕ → List ℕ
level_end y = codes "V" ++ (decimal y ++ codes "\"/>\n")

-- the levels, as an area
unfoldable pub level_path : Plant → ℕ → ℕ → List ℤ → List ℕ
level_path plant y top levels =
    path_begin (codes "level") (y + 21) ++ (flat_map (level_step plant y top) levels ++ level_end (y + 21))

-- the words of a limit
unfoldable pub limit_words : ℕ → List ℕ
limit_words limit = codes "max " ++ decimal limit

-- the limits, as a line
unfoldable pub limit_path : Plant → ℕ → ℕ → List ℕ → List ℕ
limit_path plant y top limits =
    path_begin (codes "limit") (y + 21 - height_of top (slice_index limits 0))
    ++ (flat_map (size_step plant y top) limits ++ codes "\"/>\n")

-- the limits, with the number of the first in the column of names; nothing where there are none
unfoldable pub limit_marks : Plant → ℕ → ℕ → List ℕ → List ℕ
limit_marks plant y top limits =
    if nat_lt 0 (length limits)
    then limit_path plant y top limits ++ fitted (codes "most") 0 (y + 20) 20 (limit_words (slice_index limits 0))
    else []

-- a level gets its number: it is another than before, or stands at every eighth place
abbrev pub is_told : List ℤ → ℕ → Bool
is_told levels place =
    place % 8 == 0 || not (int_eq (slice_index_or levels place (pos 0)) (slice_index_or levels (place - 1) (pos 0)))

-- the number of a level
unfoldable pub level_mark : Plant → ℕ → List ℤ → ℕ → List ℕ
level_mark plant y levels place =
    if is_told levels place
    then fitted (codes "number") (x_at plant place + 4) (y + 19) (letters_in (period_width plant)) (signed_decimal (slice_index_or levels place (pos 0)))
    else []

-- the numbers of all levels
abbrev pub level_marks : Plant → ℕ → List ℤ → List ℕ
level_marks plant y levels = flat_map (level_mark plant y levels) (range_with_len 0 (length levels))

-- steps with their limits and their numbers
unfoldable pub steps : Plant → ℕ → ℕ → List ℤ → List ℕ → List ℕ
steps plant y top levels limits = level_path plant y top levels ++ (limit_marks plant y top limits ++ level_marks plant y levels)

-- what a band shows of steps that reach over all bands
abbrev pub band_steps : Plant → ℕ → ℕ → List ℤ → List ℕ → List ℕ
band_steps plant band y levels limits = steps plant y (graph_top levels limits) (band_part plant band levels) (band_part plant band limits)

-- the cloth of a flag: as wide as its words, and the room is
unfoldable pub cloth : Plant → ℕ → ℕ → ℕ → List ℕ
cloth plant x y letters = box_at (codes "cloth") x (y + 1) (6 * min (letters_in (period_width plant)) letters + 6) 11

-- a flag with words, at a time
unfoldable pub whole_flag : Plant → ℕ → ℕ → List ℕ → List ℕ
whole_flag plant x y text =
    box_at (codes "pole") x (y + 1) 2 20 ++ (cloth plant x y (length text)
    ++ fitted (codes "flag") (x + 4) (y + 10) (letters_in (period_width plant)) text)

-- a flag at a place; none where there are no words
unfoldable pub flag : Plant → ℕ → ℕ → List ℕ → List ℕ
flag plant y place text = if nat_lt 0 (length text) then whole_flag plant (x_at plant place) y text else []

-- two texts, with a blank between them where both are there
unfoldable pub spaced : List ℕ → List ℕ → List ℕ
spaced first second = if nat_lt 0 (length first) && nat_lt 0 (length second) then first ++ (codes " " ++ second) else first ++ second

-- an amount behind its sign; nothing where it is 0
unfoldable pub signed : List ℕ → ℕ → List ℕ
signed sign amount = if nat_lt 0 amount then sign ++ decimal amount else []

-- what comes into a state from outside at a time
unfoldable pub arriving : Plant → ℕ → ℕ → ℕ
arriving plant state time = received plant state time - (if time == 0 then 0 else received plant state (time - 1))

-- what goes out of a state to customers at a time
unfoldable pub leaving : Plant → ℕ → ℕ → ℕ
leaving plant state time = delivered plant state time - (if time == 0 then 0 else delivered plant state (time - 1))

-- a limit is another than before
abbrev pub is_new : List ℕ → ℕ → Bool
is_new limits place =
    nat_lt 0 place && nat_lt place (length limits) && not (slice_index limits place == slice_index limits (place - 1))

-- the words of a limit that is another than before
unfoldable pub new_limit : List ℕ → ℕ → List ℕ
new_limit limits place = if is_new limits place then limit_words (slice_index limits place) else []

-- what comes into a state and goes out of it at a time, each behind its sign
unfoldable pub traffic : Plant → ℕ → ℕ → List ℕ
traffic plant state time = spaced (signed (codes "+") (arriving plant state time)) (signed (codes "-") (leaving plant state time))

-- the flag at a place of a state's row: what comes, what goes, and a new limit
unfoldable pub stock_flag : Plant → ℕ → ℕ → ℕ → ℕ → List ℕ
stock_flag plant band state y place =
    flag plant y place (spaced (traffic plant state (time_of band place)) (new_limit (band_part plant band (state_at plant state).limits) place))

-- the flags at so many places of a state's row
abbrev pub stock_flags : Plant → ℕ → ℕ → ℕ → ℕ → List ℕ
stock_flags plant band state y places = flat_map (stock_flag plant band state y) (range_with_len 0 places)

-- the flag at a place of a utility's row: a new limit
unfoldable pub load_flag : Plant → List ℕ → ℕ → ℕ → List ℕ
load_flag plant limits y place = flag plant y place (new_limit limits place)

-- the flags of a utility's row
abbrev pub load_flags : Plant → List ℕ → ℕ → List ℕ
load_flags plant limits y = flat_map (load_flag plant limits y) (range_with_len 0 (length limits))

-- the stocks of a state at all times, in mass units
abbrev pub stocks_of : Plant → List Start → ℕ → List ℤ
stocks_of plant plan state = map (λ time. stock plant plan state time) (range_with_len 0 (plant.periods + 1))

-- the loads of a utility in all periods
abbrev pub loads_of : Plant → List Start → ℕ → List ℤ
loads_of plant plan utility = map (λ period. pos (load plant plan utility period)) (range_with_len 0 plant.periods)

-- a batch takes of the state or gives to it
abbrev pub moves : Plant → ℕ → Start → Bool
moves plant state start =
    list_any (λ input. input.state == state) (task_at plant start.task).inputs
    || list_any (λ output. output.state == state) (task_at plant start.task).outputs

-- something moves the state: a receipt, a delivery or a batch
unfoldable pub is_touched : Plant → List Start → ℕ → Bool
is_touched plant plan state =
    list_any (λ receipt. receipt.state == state) plant.receipts
    || (list_any (λ delivery. delivery.state == state) plant.deliveries || list_any (moves plant state) plan)

-- how many states before this one are moved
abbrev pub touched_before : Plant → List Start → ℕ → ℕ
touched_before plant plan state = count_below (is_touched plant plan) state

-- how many states are moved
abbrev pub touched_count : Plant → List Start → ℕ
touched_count plant plan = touched_before plant plan (length plant.states)

-- the row of a state in a band: what it is called, its stocks as steps with their limits, and its flags
unfoldable pub stock_graph : Plant → List ℤ → ℕ → ℕ → ℕ → List ℕ
stock_graph plant stocks band state y =
    row_name (y + 10) (state_caption plant state) ++ (band_steps plant band y stocks (state_at plant state).limits
    ++ stock_flags plant band state y (length (band_part plant band stocks)))

-- the row of a state that is moved, below those of such states before it; none of another state
unfoldable pub stock_row : Plant → List Start → ℕ → ℕ → List ℕ
stock_row plant plan band state =
    if is_touched plant plan state
    then stock_graph plant (stocks_of plant plan state) band state (stocks_top plant + 22 + 22 * touched_before plant plan state)
    else []

-- the rows of all states
abbrev pub stock_rows : Plant → List Start → ℕ → List ℕ
stock_rows plant plan band = flat_map (stock_row plant plan band) (range_with_len 0 (length plant.states))

-- the stocks of a band: a head, and a row for each of so many states; nothing where there are none
unfoldable pub stocks : Plant → List Start → ℕ → ℕ → List ℕ
stocks plant plan states band =
    if nat_lt 0 states then part_head plant band (stocks_top plant) (codes "stock") ++ stock_rows plant plan band else []

-- the row of a utility in a band: what it is called, its loads as steps with their limits, and flags of new limits
unfoldable pub load_graph : Plant → List ℤ → ℕ → ℕ → ℕ → List ℕ
load_graph plant loads band utility y =
    row_name (y + 10) (utility_caption plant utility) ++ (band_steps plant band y loads (utility_at plant utility).limits
    ++ load_flags plant (band_part plant band (utility_at plant utility).limits) y)

-- the row of a utility, below the rows of so many states
unfoldable pub load_row : Plant → List Start → ℕ → ℕ → ℕ → List ℕ
load_row plant plan states band utility =
    load_graph plant (loads_of plant plan utility) band utility (loads_top plant states + 22 + 22 * utility)

-- the rows of all utilities
abbrev pub load_rows : Plant → List Start → ℕ → ℕ → List ℕ
load_rows plant plan states band = flat_map (load_row plant plan states band) (range_with_len 0 (length plant.utilities))

-- the loads of a band: a head, and a row for each utility; nothing where there are none
unfoldable pub loads : Plant → List Start → ℕ → ℕ → List ℕ
loads plant plan states band =
    if nat_lt 0 (length plant.utilities)
    then part_head plant band (loads_top plant states) (codes "load") ++ load_rows plant plan states band
    else []
