-- What a slot counts at each value, as a line above 0.
use Rattle.std.specs.Prelude.{ℕ, ◌*◌, ◌≤◌, ◌^◌, ◌==◌, if◌then◌else◌, List, ℤ, pos, ◌+ℤ◌, ◌*ℤ◌, slice_index_or, unsigned_abs}
use Rattle.row_kit.specs.declared.row.Entry.{Entry}
use Rattle.dual_bound.specs.declared.line.Line.{Line}

-- what a line counts at a value: nothing at 0
abbrev pub line_at : Line → ℕ → ℤ
line_at line value = if value == 0 then pos 0 else (line.fixed +ℤ (line.per *ℤ pos value))

-- the line of a slot, and the line that counts nothing where there is none
abbrev pub slot_line : List Line → ℕ → Line
slot_line lines slot = slice_index_or lines slot (record { fixed = pos 0; per = pos 0 })

-- a factor times either part of an entry stays small
pub record IsLight (factor : ℕ) (entry : Entry) : Type 0 where
  pub fixed : factor * unsigned_abs entry.fixed ≤ 2 ^ 71
  pub per : factor * unsigned_abs entry.per ≤ 2 ^ 71

-- neither part of a line exceeds a bound
pub record IsWithin (most : ℕ) (line : Line) : Type 0 where
  pub fixed : unsigned_abs line.fixed ≤ most
  pub per : unsigned_abs line.per ≤ most
