-- The parts of all slots.
use Rattle.std.specs.Prelude.{◌≡◌, ℕ, ◌<◌, List, length, pos, slice_index_or}
use Rattle.row_kit.specs.declared.row.Row.{Row}
use Rattle.row_kit.specs.Row.{entry_at}
use Rattle.derived_rows.specs.declared.derived.Derived.{Derived}
use Rattle.derived_rows.specs.declared.parts.Parts.{Parts}
use Rattle.derived_rows.specs.declared.table.Table.{Table}
use Rattle.derived_rows.specs.Derived.{term_at}
use Rattle.derived_rows.specs.Line.{AreSmall, line_at, parts_term, slot_line}

-- the parts of a slot
abbrev pub parts_at : Table → ℕ → Parts
parts_at table slot = record {
  sum = slot_line table.sums slot;
  slack = slot_line table.slacks slot;
  own = slot_line table.own slot;
  shift = slice_index_or table.shifts slot (pos 0);
}

-- the table of a derived row over so many slots has small parts for each slot, of which T and the entry are those of the slot
pub record IsTableOf (rows : List Row) (slots : ℕ) (derived : Derived) (table : Table) : Type 0 where
  pub sums : length table.sums ≡ slots
  pub slacks : length table.slacks ≡ slots
  pub own : length table.own ≡ slots
  pub shifts : length table.shifts ≡ slots
  pub small : (slot : ℕ) → slot < slots → AreSmall (parts_at table slot)
  pub terms : (slot value : ℕ) → slot < slots → parts_term derived (parts_at table slot) value ≡ term_at rows derived slot value
  pub entries : (slot value : ℕ) → slot < slots → line_at (parts_at table slot).own value ≡ entry_at derived.entries slot value
