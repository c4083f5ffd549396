-- Rows in the order of two numbers.
use Rattle.std.specs.Prelude.{ℕ, zero, suc, List, [], ◌∷◌, ◌++◌}
use Rattle.row_kit.specs.declared.row.Row.{Row}

-- a row for each number below n, in order
abbrev pub rows_below : (ℕ → Row) → ℕ → List Row
rows_below row zero = []
rows_below row (suc n) = rows_below row n ++ row n ∷ []

-- for each number below n, in order, its rows: one for each number below a count of its own
abbrev pub row_table : (ℕ → ℕ → Row) → (ℕ → ℕ) → ℕ → List Row
row_table row count zero = []
row_table row count (suc n) = row_table row count n ++ rows_below (row n) (count n)
