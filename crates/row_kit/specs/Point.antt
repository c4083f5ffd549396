-- What points are lawful, and what they are worth.
use Rattle.std.specs.Prelude.{◌≡◌, ℕ, ◌<◌, length, List, ℤ, pos, ◌+ℤ◌, ◌-ℤ◌, slice_index}
use Rattle.std.specs.List.{All}
use Rattle.row_kit.specs.declared.domain.Domain.{Domain}
use Rattle.row_kit.specs.declared.program.Program.{Program}
use Rattle.row_kit.specs.Domain.{Holds, domain_at}
use Rattle.row_kit.specs.Row.{entries_sum, IsKept}
use Rattle.row_kit.specs.Change.{changeovers}

-- a point lies in domains where it has a value for each, and each domain holds its value
pub record LiesIn (domains : List Domain) (point : List ℕ) : Type 0 where
  pub same_length : length point ≡ length domains
  pub held : (slot : ℕ) → slot < length domains → Holds (domain_at domains slot) (slice_index point slot)

-- a lawful point lies in the root and keeps every row
pub record IsLawful (program : Program) (point : List ℕ) : Type 0 where
  pub lies : LiesIn program.root point
  pub keeps : All (IsKept point) program.rows

-- the value of a point: the base plus its profit entries
abbrev pub value_of : Program → List ℕ → ℤ
value_of program point = program.base +ℤ entries_sum program.profit point

-- the worth of a point: its value less what its changeovers cost
abbrev pub worth_of : Program → List ℕ → ℤ
worth_of program point = value_of program point -ℤ pos (changeovers program.changes program.tags point)
