-- The picture of a plan, as an SVG document.
use Rattle.std.specs.Prelude.{ℕ, ℤ, ◌+◌, ◌*◌, ◌/◌, ◌%◌, length, List, ◌++◌, codes, decimal, flat_map}
use Rattle.std.specs.List.{range_with_len}
use Rattle.std.specs.Fmt.{signed_decimal}
use Rattle.stn_model.specs.declared.plant.Plant.{Plant}
use Rattle.stn_model.specs.declared.start.Start.{Start}
use Rattle.stn_model.specs.Profit.{profit}
use Rattle.plan_picture.specs.Captions.{task_caption}
use Rattle.plan_picture.specs.Marks.{words_at, fitted, box_at}
use Rattle.plan_picture.specs.Scale.{band_count, chart_width, tasks_in_line, days_top, band_top}
use Rattle.plan_picture.specs.Chart.{part_head, grid}
use Rattle.plan_picture.specs.Bars.{unit_rows, outage_boxes, cleanings, colour_begin, edge_class, bars}
use Rattle.plan_picture.specs.Held.{held_bars}
use Rattle.plan_picture.specs.Graphs.{touched_count, stocks, loads}
use Rattle.plan_picture.specs.Days.{days}

-- the first line: the size of the document
unfoldable pub size_line : ℕ → ℕ → List ℕ
size_line width height =
    codes "<svg xmlns=\"http://www.w3.org/2000/svg\" viewBox=\"0 0 " ++ (decimal width ++ (codes " " ++ (decimal height
    ++ (codes "\" width=\"" ++ (decimal width ++ (codes "\" height=\"" ++ (decimal height ++ codes "\">\n")))))))

-- how words look
unfoldable pub word_style : List ℕ
word_style = codes "<style>\n.page{fill:#fff;stroke:none}\n.title{font-size:14px;font-weight:bold}\n.head{font-size:12px;font-weight:bold}\n.name{font-weight:bold}\n.time{text-anchor:middle;fill:#555}\n.task{fill:#000}\n.quanta{font-weight:bold;fill:#000}\n.most{fill:#b02a1c}\n"

-- how rows, outages, cleaning, levels, limits and flags look
unfoldable pub row_style : List ℕ
row_style = codes ".row{fill:#f0f0f0}\n.grid{stroke:#ccc;fill:none}\n.outage{fill:#bbb}\n.clean{stroke:#888;stroke-width:20px;stroke-dasharray:2 4;fill:none}\n.level{fill:#cfe3f5;stroke:#8fbce0}\n.limit{stroke:#b02a1c;stroke-dasharray:6 3;fill:none}\n.cloth{fill:#ffe08a}\n.pole{fill:#7a5200}\n"

-- how tasks look: eight colours that people with colour blindness can tell apart, and five edges
unfoldable pub task_style : List ℕ
task_style = codes ".c0{fill:#7ad}\n.c1{fill:#e86}\n.c2{fill:#ed8}\n.c3{fill:#fab}\n.c4{fill:#9df}\n.c5{fill:#4b9}\n.c6{fill:#bc3}\n.c7{fill:#aa0}\n.d0{stroke:#333}\n.d1{stroke:#333;stroke-width:3px}\n.d2{stroke:#333;stroke-width:3px;stroke-dasharray:6 3}\n.d3{stroke:#333;stroke-width:3px;stroke-dasharray:2 3}\n.d4{stroke:#fff;stroke-width:3px;stroke-dasharray:4 4}\n"

-- how the picture is printed: on one page
unfoldable pub page_style : List ℕ
page_style = codes "@page{size:A3 landscape;margin:8mm}\n@media print{:root{width:404mm;height:281mm}}\n</style>\n"

-- how all classes look
unfoldable pub style : List ℕ
style = word_style ++ (row_style ++ (task_style ++ page_style))

-- the size of a document, how it looks, and its white ground
unfoldable pub page : ℕ → ℕ → List ℕ
page width height = size_line width height ++ (style ++ box_at (codes "page") 0 0 width height)

-- the margins, and the letters of all words
unfoldable pub ground_begin : List ℕ
ground_begin = codes "<g transform=\"translate(16 8)\" font-family=\"monospace\" font-size=\"10\" stroke=\"none\">\n"

-- the first words: the profit
unfoldable pub profit_words : ℤ → List ℕ
profit_words profit = words_at (codes "title") 0 16 (codes "profit " ++ signed_decimal profit)

-- what an outage, cleaning, a limit and a flag look like
unfoldable pub keys : List ℕ
keys = codes "<rect class=\"outage\" x=\"240\" y=\"2\" width=\"24\" height=\"20\"/>\n<text class=\"task\" x=\"270\" y=\"16\">outage</text>\n<path class=\"clean\" d=\"M360 12h24\"/>\n<text class=\"task\" x=\"390\" y=\"16\">cleaning</text>\n<path class=\"limit\" d=\"M480 12h24\"/>\n<text class=\"most\" x=\"510\" y=\"16\">limit</text>\n<rect class=\"pole\" x=\"600\" y=\"2\" width=\"2\" height=\"20\"/>\n<rect class=\"cloth\" x=\"600\" y=\"2\" width=\"24\" height=\"11\"/>\n<text class=\"flag\" x=\"630\" y=\"16\">receipt +, delivery -</text>\n"

-- the entry of a task in the legend: a patch in its colour and with its edge, and what it is called, in a room of 34 letters
unfoldable pub legend_entry : Plant → ℕ → List ℕ
legend_entry plant task =
    let x = 240 * (task % tasks_in_line plant) in
    let y = 22 + 22 * (task / tasks_in_line plant) in
    colour_begin plant task ++ (box_at (edge_class task) (x + 2) (y + 3) 24 16
    ++ (fitted (codes "task") (x + 32) (y + 14) 34 (task_caption plant task) ++ codes "</g>\n"))

-- the legend: an entry for each task
abbrev pub legend : Plant → List ℕ
legend plant = flat_map (legend_entry plant) (range_with_len 0 (length plant.tasks))

-- the head: its ground, the profit, what marks look like, and the legend
unfoldable pub head : Plant → List Start → List ℕ
head plant plan = ground_begin ++ (profit_words (profit plant plan) ++ (keys ++ legend plant))

-- where a band begins: so far down
unfoldable pub band_begin : ℕ → List ℕ
band_begin y = codes "<g transform=\"translate(0 " ++ (decimal y ++ codes ")\">\n")

-- what stands in the rows of the units of a band: outages, what is left of batches before the plan, cleaning, and the bars of the batches
unfoldable pub gantt : Plant → List Start → ℕ → List ℕ
gantt plant plan band = outage_boxes plant band ++ (held_bars plant band ++ (cleanings plant plan band ++ bars plant plan band))

-- the units of a band: a head, the rows of all units, the lines of all times, and what stands in the rows
unfoldable pub units : Plant → List Start → ℕ → ℕ → List ℕ
units plant plan states band =
    part_head plant band 0 (codes "units") ++ (unit_rows plant band ++ (grid plant band (days_top plant states)
    ++ gantt plant plan band))

-- a band: its units with their batches, the stocks of so many states, the loads, and days and hours
unfoldable pub band_text : Plant → List Start → ℕ → ℕ → List ℕ
band_text plant plan states band =
    band_begin (band_top plant states band) ++ (units plant plan states band ++ (stocks plant plan states band
    ++ (loads plant plan states band ++ (days plant states band ++ codes "</g>\n"))))

-- all bands
unfoldable pub bands : Plant → List Start → ℕ → List ℕ
bands plant plan states = flat_map (band_text plant plan states) (range_with_len 0 (band_count plant))

-- the page of a picture with rows for so many states
unfoldable pub whole_page : Plant → ℕ → List ℕ
whole_page plant states = page (chart_width plant + 32) (band_top plant states (band_count plant) + 16)

-- where the picture ends
unfoldable pub picture_end : List ℕ
picture_end = codes "</g>\n</svg>\n"

-- the picture with rows for so many states
unfoldable pub picture_with : Plant → List Start → ℕ → List ℕ
picture_with plant plan states = whole_page plant states ++ (head plant plan ++ (bands plant plan states ++ picture_end))

-- the whole picture, with a row for each state that is moved
abbrev pub picture_text : Plant → List Start → List ℕ
picture_text plant plan = picture_with plant plan (touched_count plant plan)
