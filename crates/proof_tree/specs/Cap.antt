-- What caps say of points.
use Rattle.std.specs.Prelude.{ℤ, ◌≤ℤ◌, ⊤, Option, Some, None}
use Rattle.std.specs.Int.{int_max}
use Rattle.proof_tree.specs.declared.capped.Capped.{Capped}
use Rattle.proof_tree.specs.declared.capped.Capped.TheVariants.{AtMost, NoPoint, Bad}
use Rattle.proof_tree.specs.Views.{Point}

-- the greater of two caps: no point where both have none, undefined where one is
abbrev pub greater : Capped → Capped → Capped
greater Bad other = Bad
greater NoPoint other = other
greater (AtMost a) Bad = Bad
greater (AtMost a) NoPoint = AtMost a
greater (AtMost a) (AtMost b) = AtMost (int_max a b)

-- the cap of what a split forgets: its floor, and no point where it forgets none
abbrev pub floor_cap : Option ℤ → Capped
floor_cap None = NoPoint
floor_cap (Some n) = AtMost n

-- a worth is at most the floor of a split that has one
abbrev pub IsWithinFloor : Option ℤ → ℤ → Type 0
IsWithinFloor None x = ⊥
IsWithinFloor (Some n) x = x ≤ℤ n

-- what a cap claims of the points of an area: no lawful one is worth more, or there is no lawful one
abbrev pub Bounds : (Point → Type 0) → (Point → Type 0) → (Point → ℤ) → Capped → Type 0
Bounds is_point is_lawful worth (AtMost n) = (p : Point) → is_point p → is_lawful p → worth p ≤ℤ n
Bounds is_point is_lawful worth NoPoint = (p : Point) → is_point p → ¬ is_lawful p
Bounds is_point is_lawful worth Bad = ⊤
