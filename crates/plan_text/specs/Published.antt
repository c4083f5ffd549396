-- The numbers that the format of plan texts fixes.
use Rattle.std.specs.Prelude.{ℕ, if◌then◌else◌}
use Rattle.stn_model.specs.declared.plant.Plant.{Plant}

-- the kind of a line that is not of the form
abbrev pub bad_line : ℕ
bad_line = 1

-- the kind of a line whose unit or task is not in the plant
abbrev pub unknown_name : ℕ
unknown_name = 2

-- the kind of a line that is one line too many
abbrev pub too_many_lines : ℕ
too_many_lines = 3

-- the kind of a text that is too long
abbrev pub too_long : ℕ
too_long = 4

-- how many bytes a plan text for the plant has at most
abbrev pub most_bytes : Plant → ℕ
most_bytes plant = if plant.large then 524288 else 262144

-- how many lines of a plan text for the plant are no comments, at most
abbrev pub most_lines : Plant → ℕ
most_lines plant = if plant.large then 4096 else 2048

-- a number in a plan text has at most nine digits: it is below this
abbrev pub number_limit : ℕ
number_limit = 1000000000
