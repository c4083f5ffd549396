-- What entries count, and when a row is kept.
use Rattle.std.specs.Prelude.{ℕ, ◌+◌, ◌==◌, Bool, ◌&&◌, if◌then◌else◌, List, [], ◌∷◌, ℤ, pos, ◌+ℤ◌, ◌*ℤ◌, ◌≤ℤ◌, slice_index, slice_index_or}
use Rattle.std.specs.Ordering.{int_eq}
use Rattle.row_kit.specs.declared.row.Entry.{Entry}
use Rattle.row_kit.specs.declared.row.Row.{Row}

-- what an entry counts at a value: nothing at 0
abbrev pub counted : Entry → ℕ → ℤ
counted entry value = if value == 0 then pos 0 else (entry.fixed +ℤ (entry.per *ℤ pos value))

-- what the entry of a slot counts at a value; a slot without an entry counts nothing
abbrev pub entry_at : List Entry → ℕ → ℕ → ℤ
entry_at [] slot value = pos 0
entry_at (entry ∷ entries) slot value = (if entry.slot == slot then counted entry value else pos 0) +ℤ entry_at entries slot value

-- what entries sum to at a point
abbrev pub entries_sum : List Entry → List ℕ → ℤ
entries_sum [] point = pos 0
entries_sum (entry ∷ entries) point = counted entry (slice_index point entry.slot) +ℤ entries_sum entries point

-- a row with nothing in it, for a number that no row has
abbrev pub no_row : Row
no_row = record { entries = []; limit = pos 0 }

-- the row of a number
abbrev pub row_at : List Row → ℕ → Row
row_at rows number = slice_index_or rows number no_row

-- a row is kept at a point where its entries sum to at most its limit
abbrev pub IsKept : List ℕ → Row → Type 0
IsKept point row = entries_sum row.entries point ≤ℤ row.limit

-- both parts are 0
abbrev pub is_nothing : ℤ × ℤ → Bool
is_nothing parts = int_eq parts.0 (pos 0) && int_eq parts.1 (pos 0)

-- the entries of slots from one on, for the fixed part and the part for each quantum that each slot counts: a slot whose parts are both 0 has none
abbrev pub entries_from : ℕ → List (ℤ × ℤ) → List Entry
entries_from slot [] = []
entries_from slot (parts ∷ rest) =
    if is_nothing parts then entries_from (slot + 1) rest else record { slot = slot; fixed = parts.0; per = parts.1 } ∷ entries_from (slot + 1) rest

-- what a slot with these parts counts at a value: nothing at 0
abbrev pub part_at : ℤ × ℤ → ℕ → ℤ
part_at parts value = if value == 0 then pos 0 else (parts.0 +ℤ (parts.1 *ℤ pos value))

-- what slots count at a point: the sum over the slots of what each counts at its value
abbrev pub parts_sum : List (ℤ × ℤ) → List ℕ → ℤ
parts_sum [] point = pos 0
parts_sum (parts ∷ rest) [] = pos 0
parts_sum (parts ∷ rest) (value ∷ values) = part_at parts value +ℤ parts_sum rest values
