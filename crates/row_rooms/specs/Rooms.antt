-- What is left of each row's limit at a point, and the cells of the rows that name a slot.
use Rattle.std.specs.Prelude.{◌≡◌, ◌==◌, ℕ, ◌<◌, List, [], ◌∷◌, length, ℤ, pos, ◌+ℤ◌, ◌-ℤ◌, ◌*ℤ◌, int_lt, if◌then◌else◌, slice_index_or}
use Rattle.std.specs.List.{All, sum_by}
use Rattle.row_kit.specs.declared.row.Entry.{Entry}
use Rattle.row_kit.specs.declared.row.Row.{Row}
use Rattle.row_kit.specs.declared.program.Program.{Program}
use Rattle.row_kit.specs.Row.{entry_at, entries_sum, row_at}
use Rattle.row_rooms.specs.declared.rooms.Cell.{Cell}
use Rattle.row_rooms.specs.declared.rooms.RowRooms.{RowRooms}

-- what a cell counts at a value: nothing at 0
abbrev pub cell_counted : Cell → ℕ → ℤ
cell_counted cell value = if value == 0 then pos 0 else (cell.fixed +ℤ (cell.per *ℤ pos value))

-- what the cells of a row count at a value, summed
abbrev pub cells_at : List Cell → ℕ → ℕ → ℤ
cells_at [] row value = pos 0
cells_at (cell ∷ cells) row value = (if cell.row == row then cell_counted cell value else pos 0) +ℤ cells_at cells row value

-- what the entries of the row of one number count in the row of another: in any other row nothing
abbrev pub entries_in : ℕ → List Entry → ℕ → ℕ → ℕ → ℤ
entries_in number entries row slot value = if number == row then entry_at entries slot value else pos 0

-- the column of a slot
abbrev pub column_at : List (List Cell) → ℕ → List Cell
column_at columns slot = slice_index_or columns slot []

-- the cells of a slot's column name rows, and count in each row at each value what the slot's entries count there
pub record IsColumn (rows : List Row) (slot : ℕ) (cells : List Cell) : Type 0 where
  pub named : All (λ cell. cell.row < length rows) cells
  pub counts : (row value : ℕ) → cells_at cells row value ≡ entry_at (row_at rows row).entries slot value

-- there is a column for each slot
abbrev pub AreColumns : List Row → List (List Cell) → Type 0
AreColumns rows columns = (slot : ℕ) → slot < length columns → IsColumn rows slot (column_at columns slot)

-- what is left for the row of a number
abbrev pub room_at : List ℤ → ℕ → ℤ
room_at rooms row = slice_index_or rooms row (pos 0)

-- how many rows are broken by what is left for one: 1 where that is less than nothing
abbrev pub broken_by : ℤ → ℕ
broken_by room = if int_lt room (pos 0) then 1 else 0

-- what is left for each row changes by what the cells of a column count, whose slot had one value and gets another
pub record IsTurned (cells : List Cell) (former value : ℕ) (rooms later : List ℤ) : Type 0 where
  pub as_many : length later ≡ length rooms
  pub left : (row : ℕ) → row < length rooms → room_at later row ≡ room_at rooms row +ℤ cells_at cells row former -ℤ cells_at cells row value

-- for each row its limit less what its entries sum to at a point is left, and so many rows are broken
pub record IsRoomsOf (program : Program) (held : RowRooms) : Type 0 where
  pub one_column : length held.columns.items ≡ length program.root
  pub columns : AreColumns program.rows held.columns.items
  pub one_value : length held.point.items ≡ length program.root
  pub bytes : All (λ value. value < 256) held.point.items
  pub one_room : length held.rooms.items ≡ length program.rows
  pub left : (row : ℕ) → row < length program.rows
      → room_at held.rooms.items row ≡ (row_at program.rows row).limit -ℤ entries_sum (row_at program.rows row).entries held.point.items
  pub broken : held.broken ≡ sum_by broken_by held.rooms.items
