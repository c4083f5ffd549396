-- What an area shows: the numbers of its domains.
use Rattle.std.specs.Prelude.{◌≡◌, ℕ, ◌==◌, if◌then◌else◌, List, [], ◌∷◌, length}
use Rattle.std.specs.List.{All}
use Rattle.row_kit.specs.declared.domain.Domain.{Domain}
use Rattle.row_kit.specs.declared.program.Program.{Program}
use Rattle.row_kit.specs.Domain.{IsNormal}
use Rattle.row_kit.specs.Point.{LiesIn}
use Rattle.row_kit.specs.Points.{points_of}
use Rattle.proof_tree.specs.Views.{View, Point}

-- the view of domains: of each, whether it holds 0, its least and its greatest value of 1 or more
abbrev pub view_of : List Domain → View
view_of [] = []
view_of (domain ∷ domains) = (if domain.zero then 1 else 0) ∷ (domain.lo ∷ (domain.hi ∷ view_of domains))

-- the domains that a view shows
abbrev pub domains_of : View → List Domain
domains_of (z ∷ (lo ∷ (hi ∷ rest))) = record { zero = z == 1; lo = lo; hi = hi } ∷ domains_of rest
domains_of rest = []

-- a view fits where it shows a normal domain for each slot of a program
pub record Fits (program : Program) (view : View) : Type 0 where
  pub shown : view ≡ view_of (domains_of view)
  pub slots : length (domains_of view) ≡ length program.root
  pub normal : All IsNormal (domains_of view)

-- a point of a view lies in the domains that it shows
abbrev pub IsIn : View → Point → Type 0
IsIn view point = LiesIn (domains_of view) point

-- the number of points of a view: that of the domains which it shows
abbrev pub points_in : View → ℕ
points_in view = points_of (domains_of view)
