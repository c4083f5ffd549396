-- Stands in specs/ since clauses of private functions cite it; no public clause does.
-- Which rows wait for a look.
use Rattle.std.specs.Prelude.{◌≡◌, ◌≢◌, ◌<◌, length, ℕ, Bool, true, false, List, slice_index_or}
use Rattle.std.specs.List.{All}
use Rattle.row_kit.specs.declared.domain.Domain.{Domain}
use Rattle.row_kit.specs.declared.row.Row.{Row}
use Rattle.row_kit.specs.Row.{row_at}
use Rattle.range_prop.specs.Cuts.{HasRoom}

-- a row waits
abbrev pub waits : List Bool → ℕ → Bool
waits waiting row = slice_index_or waiting row false

-- rows wait, but for one
abbrev pub AreAwake : List Bool → ℕ → List ℕ → Type 0
AreAwake waiting cutter rows = All (λ row. row ≢ cutter → waits waiting row ≡ true) rows

-- each row that does not wait has room for each value of each slot
abbrev pub AreQuiet : List Row → List Domain → List Bool → Type 0
AreQuiet rows domains waiting = (row : ℕ) → row < length rows → waits waiting row ≡ false → HasRoom domains (row_at rows row)
