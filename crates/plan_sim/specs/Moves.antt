-- Tables of what moves, row by row, and the summands that fill them.
use Rattle.std.specs.Prelude.{ℕ, ◌+◌, ◌*◌, ◌≤◌, ◌==◌, ◌&&◌, nat_le, nat_lt, ◌-◌, sum_by, if◌then◌else◌, List, length, sum, take, drop, slice_index}
use Rattle.stn_model.specs.declared.plant.Draw.{Draw}
use Rattle.stn_model.specs.declared.start.Start.{Start}
use Rattle.stn_model.specs.Load.{drawn_in}

-- what stands in a table of this width at a row and a column
abbrev pub cell : List ℕ → ℕ → ℕ → ℕ → ℕ
cell cells width row column = slice_index cells (row * width + column)

-- what stands in a row up to a column, together
abbrev pub summed : List ℕ → ℕ → ℕ → ℕ → ℕ
summed cells width row column = sum (take (column + 1) (drop (row * width) cells))

-- an amount that moves at one row and column is in the sum from there on
abbrev pub moved_by : ℕ → ℕ → ℕ → ℕ → ℕ → ℕ
moved_by from_row from_column amount row column = if from_row == row && nat_le from_column column then amount else 0

-- the row is there in a table of this width and length
abbrev pub HasRow : List ℕ → ℕ → ℕ → Type 0
HasRow cells width row = row * width + width ≤ length cells

-- an amount that is drawn at one row and column, as one row and column show it
abbrev pub drawn_at : ℕ → ℕ → ℕ → ℕ → ℕ → ℕ
drawn_at from_row from_column amount row column = if from_column == column then (if from_row == row then amount else 0) else 0

-- what a batch draws in a period by one of its draws, as one utility and period show it
abbrev pub draws_in : Start → ℕ → ℕ → ℕ → Draw → ℕ
draws_in start now utility period draw = if now == period then drawn_in utility start.quanta (now - start.period) draw else 0

-- what a batch draws by all its draws before a time, as one utility and period show it
abbrev pub drawn_until : List Draw → Start → ℕ → ℕ → ℕ → ℕ
drawn_until draws start end utility period = if nat_le start.period period && nat_lt period end then sum_by (drawn_in utility start.quanta (period - start.period)) draws else 0
