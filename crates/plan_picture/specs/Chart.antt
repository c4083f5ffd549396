-- What all rows of a band share: the axis of times, and names.
use Rattle.std.specs.Prelude.{ℕ, ◌+◌, List, ◌++◌, codes, decimal, flat_map}
use Rattle.std.specs.List.{range_with_len}
use Rattle.stn_model.specs.declared.plant.Plant.{Plant}
use Rattle.plan_picture.specs.Marks.{words_at, fitted}
use Rattle.plan_picture.specs.Scale.{time_of, periods_in, x_at}

-- the number of the time at a place of a band
unfoldable pub time_mark : Plant → ℕ → ℕ → ℕ → List ℕ
time_mark plant band y place = words_at (codes "time") (x_at plant place) y (decimal (time_of band place))

-- the numbers of all times of a band
abbrev pub time_marks : Plant → ℕ → ℕ → List ℕ
time_marks plant band y = flat_map (time_mark plant band y) (range_with_len 0 (periods_in plant band + 1))

-- the head of a part of a band: its title, and the numbers of all times
unfoldable pub part_head : Plant → ℕ → ℕ → List ℕ → List ℕ
part_head plant band y title = words_at (codes "head") 0 (y + 16) title ++ time_marks plant band (y + 17)

-- the line of a time through all rows
unfoldable pub time_line : Plant → ℕ → ℕ → List ℕ
time_line plant height place = codes "M" ++ (decimal (x_at plant place) ++ (codes " 22V" ++ decimal height))

-- the lines of all times of a band
abbrev pub time_lines : Plant → ℕ → ℕ → List ℕ
time_lines plant band height = flat_map (time_line plant height) (range_with_len 0 (periods_in plant band + 1))

-- the lines of all times, as one path
unfoldable pub grid : Plant → ℕ → ℕ → List ℕ
grid plant band height = codes "<path class=\"grid\" d=\"" ++ (time_lines plant band height ++ codes "\"/>\n")

-- the name of a row, in the column of names
abbrev pub row_name : ℕ → List ℕ → List ℕ
row_name y name = fitted (codes "name") 0 y 20 name
