-- The names of logs that belong together.
use Rattle.std.specs.Prelude.{ℕ, List, ◌++◌, codes, decimal}

-- the name of the log of a number among those of a stem: the stem, a dot and the number
unfoldable pub log_name : List ℕ → ℕ → List ℕ
log_name stem number = stem ++ (codes "." ++ decimal number)
