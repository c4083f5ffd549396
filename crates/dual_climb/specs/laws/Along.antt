-- Stands in specs/ since clauses of private functions cite it; no public clause does.
-- The part of a total that changes with the factor of one row.
use Rattle.std.specs.Prelude.{ℕ, ◌≤◌, ◌^◌, length, List, [], ◌∷◌, ℤ, pos, ◌+ℤ◌, ◌-ℤ◌, ◌*ℤ◌}
use Rattle.std.specs.List.{All}
use Rattle.row_kit.specs.declared.domain.Domain.{Domain}
use Rattle.row_kit.specs.declared.row.Entry.{Entry}
use Rattle.row_kit.specs.declared.row.Row.{Row}
use Rattle.row_kit.specs.Bounds.{IsBoundedRow}
use Rattle.row_kit.specs.Domain.{domain_at, values_of, IsOpen}
use Rattle.row_kit.specs.Row.{counted}
use Rattle.dual_bound.specs.declared.line.Line.{Line}
use Rattle.dual_bound.specs.Line.{line_at, slot_line, IsWithin}
use Rattle.dual_bound.specs.Total.{greatest}

-- the sum over entries of the greatest that their slots gain, less a factor times the entry
abbrev pub entries_part : (Entry → ℕ → ℤ) → List Domain → List Entry → ℕ → ℤ
entries_part free domains [] factor = pos 0
entries_part free domains (entry ∷ entries) factor =
    greatest (λ value. free entry value -ℤ (pos factor *ℤ counted entry value)) (values_of (domain_at domains entry.slot))
    +ℤ entries_part free domains entries factor

-- what the slot of an entry gains at a value without the row, where the lines hold the row with its own factor
abbrev pub freed : List Line → ℕ → Entry → ℕ → ℤ
freed lines own entry value = line_at (slot_line lines entry.slot) value +ℤ (pos own *ℤ counted entry value)

-- the factor times the limit, plus the sum over the entries of the greatest that their slots gain
abbrev pub part_along : List Line → List Domain → Row → ℕ → ℕ → ℤ
part_along lines domains row own factor = (pos factor *ℤ row.limit) +ℤ entries_part (freed lines own) domains row.entries factor

-- lines and domains along which the factor of a row may be varied
pub record IsAlong (lines : List Line) (domains : List Domain) (row : Row) (own : ℕ) : Type 0 where
  pub slots : length domains ≤ length lines
  pub few : length domains ≤ 4096
  pub within : All (IsWithin (2 ^ 93)) lines
  pub each_open : All IsOpen domains
  pub bounded : IsBoundedRow (length domains) row
  pub range : own ≤ 2 ^ 40
