-- The Gantt chart of a band: a row for each unit, outages, cleaning, and a bar for each batch.
use Rattle.std.specs.Prelude.{ℕ, ◌+◌, ◌-◌, ◌*◌, ◌/◌, ◌%◌, min, nat_lt, Bool, if◌then◌else◌, length, List, [], ◌++◌, codes, decimal, flat_map}
use Rattle.std.specs.List.{range_with_len}
use Rattle.stn_model.specs.declared.plant.Plant.{Plant}
use Rattle.stn_model.specs.declared.plant.Outage.{Outage}
use Rattle.stn_model.specs.declared.start.Start.{Start}
use Rattle.stn_model.specs.Plant.{task_at, end_of, gap_between, held_until, ready_at}
use Rattle.stn_model.specs.Batches.{is_first, is_next}
use Rattle.plan_picture.specs.declared.marks.Frame.{Frame}
use Rattle.plan_picture.specs.Marks.{words_at, shortened, title, frame_at, box_at}
use Rattle.plan_picture.specs.Scale.{periods_in, period_width, letters_in, x_at, unit_top}
use Rattle.plan_picture.specs.Chart.{row_name}
use Rattle.plan_picture.specs.Captions.{task_caption, unit_caption}

-- the place of a band at which something begins: at its time, or with the band
abbrev pub first_place : ℕ → ℕ → ℕ
first_place band from = from - 48 * band

-- the place of a band at which something ends: at its time, or with the band
abbrev pub last_place : Plant → ℕ → ℕ → ℕ
last_place plant band to = min (periods_in plant band) (to - 48 * band)

-- a band shows something of what is from one time to another
abbrev pub is_seen : Plant → ℕ → ℕ → ℕ → Bool
is_seen plant band from to = nat_lt (first_place band from) (last_place plant band to)

-- what a band shows of that, in the row of a unit
unfoldable pub span : Plant → ℕ → ℕ → ℕ → ℕ → Frame
span plant band unit from to = record {
  x = x_at plant (first_place band from);
  y = unit_top unit + 1;
  width = (last_place plant band to - first_place band from) * period_width plant;
  height = 20;
}

-- the row of a unit: what it is called, and the ground of its idle time
unfoldable pub unit_row : Plant → ℕ → ℕ → List ℕ
unit_row plant band unit =
    row_name (unit_top unit + 15) (unit_caption plant unit)
    ++ box_at (codes "row") 128 (unit_top unit + 1) (periods_in plant band * period_width plant) 20

-- the rows of all units
abbrev pub unit_rows : Plant → ℕ → List ℕ
unit_rows plant band = flat_map (unit_row plant band) (range_with_len 0 (length plant.units))

-- an outage, in the row of its unit
unfoldable pub outage_box : Plant → ℕ → Outage → List ℕ
outage_box plant band outage =
    if is_seen plant band outage.from outage.to
    then frame_at (codes "outage") (span plant band outage.unit outage.from outage.to)
    else []

-- all outages
abbrev pub outage_boxes : Plant → ℕ → List ℕ
outage_boxes plant band = flat_map (outage_box plant band) plant.outages

-- the stripes that cleaning is shown by
unfoldable pub stripes : Frame → List ℕ
stripes frame =
    codes "<path class=\"clean\" d=\"M" ++ (decimal frame.x ++ (codes " " ++ (decimal (frame.y + 10)
    ++ (codes "h" ++ (decimal frame.width ++ codes "\"/>\n")))))

-- cleaning from one time to another, in the row of a unit
unfoldable pub cleaning : Plant → ℕ → ℕ → ℕ → ℕ → List ℕ
cleaning plant band unit from to = if is_seen plant band from to then stripes (span plant band unit from to) else []

-- the cleaning from the end of a batch on, where another is a next one
unfoldable pub cleaning_between : Plant → List Start → ℕ → Start → Start → List ℕ
cleaning_between plant plan band a b =
    if is_next plan a b
    then cleaning plant band a.unit (end_of plant a) (end_of plant a + gap_between plant a.unit a.task b.task)
    else []

-- the cleaning after a batch
abbrev pub cleaning_after : Plant → List Start → ℕ → Start → List ℕ
cleaning_after plant plan band a = flat_map (cleaning_between plant plan band a) plan

-- the cleaning before a batch that comes first on its unit, from the end of the batch that held the unit last on
unfoldable pub cleaning_before : Plant → List Start → ℕ → Start → List ℕ
cleaning_before plant plan band b =
    if is_first plan b
    then cleaning plant band b.unit (held_until plant b.unit) (ready_at plant b.unit b.task)
    else []

-- all cleaning before first batches
abbrev pub first_cleanings : Plant → List Start → ℕ → List ℕ
first_cleanings plant plan band = flat_map (cleaning_before plant plan band) plan

-- all cleaning between batches
abbrev pub next_cleanings : Plant → List Start → ℕ → List ℕ
next_cleanings plant plan band = flat_map (cleaning_after plant plan band) plan

-- all cleaning of a plan
abbrev pub cleanings : Plant → List Start → ℕ → List ℕ
cleanings plant plan band = first_cleanings plant plan band ++ next_cleanings plant plan band

-- where a group of a task's class begins: one of eight
unfoldable pub class_begin : ℕ → List ℕ
class_begin task = codes "<g class=\"c" ++ (decimal (task % 8) ++ codes "\"")

-- a colour of a task's own, in the place of its class's; nothing where it has none
unfoldable pub own_colour : List ℕ → List ℕ
own_colour colour = if nat_lt 0 (length colour) then codes " style=\"fill:" ++ (colour ++ codes "\"") else []

-- a group in the colour of a task: that of its class, or its own
unfoldable pub colour_begin : Plant → ℕ → List ℕ
colour_begin plant task = class_begin task ++ (own_colour (task_at plant task).colour ++ codes ">")

-- the class of a task's edge: one of five
unfoldable pub edge_class : ℕ → List ℕ
edge_class task = codes "d" ++ decimal (task / 8)

-- the size of a batch: its quanta, and their mass
unfoldable pub size_words : Plant → Start → List ℕ
size_words plant start =
    decimal start.quanta ++ (codes " = " ++ decimal (start.quanta * (task_at plant start.task).quantum))

-- when a batch runs
unfoldable pub when_words : Plant → Start → List ℕ
when_words plant start = codes ", " ++ (decimal start.period ++ (codes " to " ++ decimal (end_of plant start)))

-- what a pointer on the bar of a batch shows: its task, its size, and when it runs
unfoldable pub bar_title : Plant → Start → List ℕ
bar_title plant start = task_caption plant start.task ++ (codes " " ++ (size_words plant start ++ when_words plant start))

-- the bar's place: in the row of its unit, from its start to its end, as far as the band shows it
abbrev pub bar_frame : Plant → ℕ → Start → Frame
bar_frame plant band start = span plant band start.unit start.period (end_of plant start)

-- two lines of words in a frame, as far as they have room
unfoldable pub frame_words : Frame → List ℕ → List ℕ → List ℕ
frame_words frame name size =
    words_at (codes "task") (frame.x + 4) (frame.y + 9) (shortened (letters_in frame.width) name)
    ++ words_at (codes "quanta") (frame.x + 4) (frame.y + 18) (shortened (letters_in frame.width) size)

-- the bar of a batch that the band shows: its title, its edge, what its task is called, and its size
unfoldable pub whole_bar : Plant → ℕ → Start → List ℕ
whole_bar plant band start =
    colour_begin plant start.task ++ (title (bar_title plant start) ++ (frame_at (edge_class start.task) (bar_frame plant band start)
    ++ (frame_words (bar_frame plant band start) (task_caption plant start.task) (size_words plant start) ++ codes "</g>\n")))

-- the bar of a batch, where the band shows something of it
unfoldable pub bar : Plant → ℕ → Start → List ℕ
bar plant band start = if is_seen plant band start.period (end_of plant start) then whole_bar plant band start else []

-- the bars of all batches
abbrev pub bars : Plant → List Start → ℕ → List ℕ
bars plant plan band = flat_map (bar plant band) plan
