-- Where a box is split. Only clauses of private functions cite it.
use Rattle.std.specs.Prelude.{◌≡◌, ℕ, ◌<◌, ◌≤◌, List, length, Option, ℤ, IfSome}
use Rattle.row_kit.specs.declared.domain.Domain.{Domain}
use Rattle.row_kit.specs.Domain.{IsOpen, count_of, domain_at, over, shared, up_to}
use Rattle.row_relax.specs.declared.pick.RowPick.{RowPick}
use Rattle.branch_tree.specs.Splits.{PartsLess}

-- a slot is there, and its domain has two values or more
abbrev pub HasTwo : List Domain → ℕ → Type 0
HasTwo domains slot = (slot < length domains) × (2 ≤ count_of (domain_at domains slot))

-- a domain may be split at a value: both parts have values, and can be split less often than the domain
pub record IsAllowed (domain : Domain) (value : ℕ) : Type 0 where
  pub left : IsOpen (shared domain (up_to value))
  pub right : IsOpen (shared domain (over value))
  pub fewer : PartsLess domain value

-- a pick with this floor is as it is advised, where the slot is a sum's with two values or more and its domain may be split at the value
abbrev pub IsAsAdvised : ℕ → List Domain → Option ℕ → Option ℕ → Option ℤ → RowPick → Type 0
IsAsAdvised given domains slot max floor pick =
    IfSome slot (λ place. IfSome max (λ value. given ≤ place → HasTwo domains place → IsAllowed (domain_at domains place) value → pick ≡ record { slot = place; max = value; floor = floor }))
