-- What a slot counts at each value, as a line above 0, and what of a slot a derived row is judged by.
use Rattle.std.specs.Prelude.{◌≡◌, ℕ, ◌*◌, ◌<◌, ◌≤◌, ◌^◌, List, length, ℤ, pos, neg_ℤ, ◌-ℤ◌, ◌*ℤ◌, ◌≤ℤ◌, slice_index_or, unsigned_abs}
use Rattle.std.specs.List.{All}
use Rattle.row_kit.specs.declared.row.Entry.{Entry}
use Rattle.row_kit.specs.declared.row.Row.{Row}
use Rattle.row_kit.specs.Row.{part_at, row_at}
use Rattle.derived_rows.specs.declared.derived.Derived.{Derived}
use Rattle.derived_rows.specs.declared.derived.Factor.{Factor}
use Rattle.derived_rows.specs.declared.line.Line.{Line}
use Rattle.derived_rows.specs.declared.parts.Parts.{Parts}
use Rattle.derived_rows.specs.declared.derived.Members.{Members}
use Rattle.derived_rows.specs.declared.derived.Members.TheVariants.{One, OfRow}
use Rattle.derived_rows.specs.Derived.{round_of}

-- what a line counts at a value: nothing at 0
abbrev pub line_at : Line → ℕ → ℤ
line_at line value = part_at (line.fixed, line.per) value

-- the line of a slot, and the line that counts nothing where there is none
abbrev pub slot_line : List Line → ℕ → Line
slot_line lines slot = slice_index_or lines slot (record { fixed = pos 0; per = pos 0 })

-- a line that counts nothing at any value
abbrev pub IsNothing : Line → Type 0
IsNothing line = (line.fixed ≡ pos 0) × (line.per ≡ pos 0)

-- a factor times either part of an entry stays small
pub record IsLight (by : ℤ) (entry : Entry) : Type 0 where
  pub fixed : unsigned_abs by * unsigned_abs entry.fixed ≤ 2 ^ 55
  pub per : unsigned_abs by * unsigned_abs entry.per ≤ 2 ^ 55

-- neither part of a line exceeds a bound
pub record IsWithin (most : ℕ) (line : Line) : Type 0 where
  pub fixed : unsigned_abs line.fixed ≤ most
  pub per : unsigned_abs line.per ≤ most

-- a factor, of a row or of its slack, names a row and stays small
pub record IsSmallFactor (rows : ℕ) (factor : Factor) : Type 0 where
  pub row : factor.row < rows
  pub small : unsigned_abs factor.by ≤ 2 ^ 31

-- the parts of a slot stay small
pub record AreSmall (parts : Parts) : Type 0 where
  pub sum : IsWithin (2 ^ 73) parts.sum
  pub slack : IsWithin (2 ^ 73) parts.slack
  pub own : IsWithin (2 ^ 73) parts.own
  pub shift : unsigned_abs parts.shift ≤ 2 ^ 40

-- T of a slot at a value, by its parts
abbrev pub parts_term : Derived → Parts → ℕ → ℤ
parts_term derived parts value =
    let round = round_of derived in
    (round (line_at parts.sum value -ℤ parts.shift) -ℤ round (neg_ℤ parts.shift)) -ℤ line_at parts.slack value

-- down times what the entry of a slot counts at a value is at most up times T
abbrev pub IsBelow : Derived → Parts → ℕ → Type 0
IsBelow derived parts value = (pos derived.down *ℤ line_at parts.own value) ≤ℤ (pos derived.up *ℤ parts_term derived parts value)

-- the rest of a derived row is below the divisor
abbrev pub IsRounding : Derived → Type 0
IsRounding derived = derived.rest < derived.divisor

-- a shift stays small
abbrev pub IsSmallShift : ℤ → Type 0
IsSmallShift shift = unsigned_abs shift ≤ 1000000000000

-- the members of a group are there: the slot, or the row and each slot of it
abbrev pub AreThere : List Row → ℕ → Members → Type 0
AreThere rows slots (One slot) = slot < slots
AreThere rows slots (OfRow row) = (row < length rows) × All (λ e. e.slot < slots) (row_at rows row).entries
