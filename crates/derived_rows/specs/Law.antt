-- That no lawful point breaks a derived row.
use Rattle.std.specs.Prelude.{◌≡◌, ℕ, ◌<◌, List, ℤ, pos, ◌+ℤ◌, ◌≤ℤ◌}
use Rattle.std.specs.List.{All}
use Rattle.row_kit.specs.declared.domain.Domain.{Domain}
use Rattle.row_kit.specs.declared.row.Row.{Row}
use Rattle.row_kit.specs.Point.{LiesIn}
use Rattle.row_kit.specs.Row.{IsKept}
use Rattle.derived_rows.specs.declared.derived.Derived.{Derived}
use Rattle.derived_rows.specs.Rounding.{phi}
use Rattle.derived_rows.specs.Shown.{IsShownRow, derived_row}

-- phi is superadditive, never falls, and is 0 at 0, for each rest below the divisor
abbrev pub RoundsDown : Type 0
RoundsDown =
    (divisor rest : ℕ) → rest < divisor
    → ((a b : ℤ) → (phi divisor rest a +ℤ phi divisor rest b) ≤ℤ phi divisor rest (a +ℤ b))
    × ((a b : ℤ) → a ≤ℤ b → phi divisor rest a ≤ℤ phi divisor rest b)
    × (phi divisor rest (pos 0) ≡ pos 0)

-- a point that lies in the domains and keeps rows keeps each row that is derived from them and shown over the domains
abbrev pub DerivedRowsHold : Type 0
DerivedRowsHold =
    (rows : List Row) (domains : List Domain) (derived : Derived) → IsShownRow rows domains derived → (point : List ℕ) → LiesIn domains point
    → All (IsKept point) rows → IsKept point (derived_row rows derived)
