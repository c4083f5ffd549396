-- When a derived row is shown.
use Rattle.std.specs.Prelude.{ℕ, ◌<◌, ◌≤◌, List, length, pos, ◌*ℤ◌, ◌≤ℤ◌, unsigned_abs}
use Rattle.std.specs.List.{All}
use Rattle.row_kit.specs.declared.domain.Domain.{Domain}
use Rattle.row_kit.specs.declared.row.Row.{Row}
use Rattle.row_kit.specs.Bounds.{AreBounded}
use Rattle.row_kit.specs.Domain.{Holds, domain_at}
use Rattle.row_kit.specs.Row.{entry_at}
use Rattle.derived_rows.specs.declared.derived.Derived.{Derived}
use Rattle.derived_rows.specs.declared.derived.Factor.{Factor}
use Rattle.derived_rows.specs.declared.derived.Group.{Group}
use Rattle.derived_rows.specs.Derived.{derived_limit, term_at}
use Rattle.derived_rows.specs.Groups.{AreMembers}

-- a factor names a row, and is 1 to 1,000,000 in absolute value
pub record IsFactor (rows : ℕ) (factor : Factor) : Type 0 where
  pub row : factor.row < rows
  pub some : 1 ≤ unsigned_abs factor.by
  pub small : unsigned_abs factor.by ≤ 1000000

-- a group has members of which at most one has a value other than 0, and a shift of at most 10^12 in absolute value
pub record IsGroup (rows : List Row) (slots : ℕ) (group : Group) : Type 0 where
  pub members : AreMembers rows slots group.members
  pub small : unsigned_abs group.shift ≤ 1000000000000

-- the numbers of a derived row lie in their ranges, and what it names is there
pub record IsDeclared (rows : List Row) (slots : ℕ) (derived : Derived) : Type 0 where
  pub divisor : (1 ≤ derived.divisor) × (derived.divisor ≤ 1000000000)
  pub rest : derived.rest < derived.divisor
  pub up : (1 ≤ derived.up) × (derived.up ≤ 1000000000)
  pub down : (1 ≤ derived.down) × (derived.down ≤ 1000000000)
  pub factor_count : (1 ≤ length derived.factors) × (length derived.factors ≤ 64)
  pub factors : All (IsFactor (length rows)) derived.factors
  pub few_groups : length derived.groups ≤ 512
  pub groups : All (IsGroup rows slots) derived.groups
  pub entries : AreBounded slots 10000000 derived.entries

-- A derived row is shown over domains where down times what its entry counts is at most up times T, for every slot, also one without
-- an entry, and each value of 1 or more that its domain holds, and where its limit is at most 10^12 in absolute value.
pub record IsShownRow (rows : List Row) (domains : List Domain) (derived : Derived) : Type 0 where
  pub declared : IsDeclared rows (length domains) derived
  pub below : (slot value : ℕ) → slot < length domains → 1 ≤ value → Holds (domain_at domains slot) value → (pos derived.down *ℤ entry_at derived.entries slot value) ≤ℤ (pos derived.up *ℤ term_at rows derived slot value)
  pub small : unsigned_abs (derived_limit rows derived) ≤ 1000000000000

-- the row that is derived
abbrev pub derived_row : List Row → Derived → Row
derived_row rows derived = record { entries = derived.entries; limit = derived_limit rows derived }
