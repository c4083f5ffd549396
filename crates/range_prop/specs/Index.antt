-- Which rows have an entry of a slot.
use Rattle.std.specs.Prelude.{ℕ, ◌<◌, ◌↔◌, List, [], length, map, slice_index_or}
use Rattle.std.specs.List.{Contains}
use Rattle.row_kit.specs.declared.row.Entry.{Entry}
use Rattle.row_kit.specs.declared.row.Row.{Row}
use Rattle.row_kit.specs.Row.{row_at}

-- the slots of entries contain a slot
abbrev pub HasEntry : List Entry → ℕ → Type 0
HasEntry entries slot = Contains (map (λ entry. entry.slot) entries) slot

-- the list of a slot
abbrev pub list_of : List (List ℕ) → ℕ → List ℕ
list_of lists slot = slice_index_or lists slot []

-- lists of row numbers, one for each slot: each has exactly the rows, of so many, with an entry of its slot
abbrev pub AreListed : List Row → ℕ → List (List ℕ) → Type 0
AreListed rows count lists =
    (slot number : ℕ) → Contains (list_of lists slot) number ↔ ((number < count) × HasEntry (row_at rows number).entries slot)

-- an index of rows: for each slot it lists exactly the rows with an entry of the slot
abbrev pub IsIndex : List Row → List (List ℕ) → Type 0
IsIndex rows lists = AreListed rows (length rows) lists
