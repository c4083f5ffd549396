-- The cap of a certificate over an area, and what it says of the lawful points.
use Rattle.std.specs.Prelude.{ℕ, ◌==◌, ◌<◌, unsigned_abs, if◌then◌else◌, List, Option, Some, None, ℤ, pos, ◌+ℤ◌, ◌*ℤ◌, ◌≤ℤ◌, ◌<ℤ◌, int_lt}
use Rattle.std.specs.Int.{int_div_euclid}
use Rattle.std.specs.List.{All}
use Rattle.proof_tree.specs.declared.capped.Capped.{Capped}
use Rattle.proof_tree.specs.declared.capped.Capped.TheVariants.{AtMost, NoPoint, Bad}
use Rattle.row_kit.specs.declared.domain.Domain.{Domain}
use Rattle.row_kit.specs.declared.program.Program.{Program}
use Rattle.row_kit.specs.Point.{LiesIn, value_of}
use Rattle.row_kit.specs.Row.{IsKept}
use Rattle.dual_bound.specs.declared.cert.Cert.{Cert}
use Rattle.dual_bound.specs.Total.{total_at}

-- the cap that a scale and a total give: nothing without a total, and with scale 0 only that there is no point, where the total is negative
abbrev pub scaled_cap : ℕ → Option ℤ → Capped
scaled_cap scale None = Bad
scaled_cap scale (Some total) =
    if scale == 0
    then (if int_lt total (pos 0) then NoPoint else Bad)
    else AtMost (int_div_euclid total (pos scale))

-- the cap of a certificate over domains
abbrev pub cert_cap : Program → List Domain → Cert → Capped
cert_cap program domains cert = scaled_cap cert.scale (total_at program domains cert)

-- a cap is the greatest whole number that is not above a total over the scale
abbrev pub IsFloor : ℕ → Option ℤ → Capped → Type 0
IsFloor scale (Some total) (AtMost cap) = ((pos scale *ℤ cap) ≤ℤ total) × (total <ℤ (pos scale *ℤ (cap +ℤ pos 1)))
IsFloor scale _ _ = Unit {0}

-- a cap is below a bound in absolute value, where it is a number
abbrev pub IsSmallCap : ℕ → Capped → Type 0
IsSmallCap most (AtMost cap) = unsigned_abs cap < most
IsSmallCap most _ = Unit {0}

-- a cap holds of the points of these domains that keep every row
abbrev pub CapHolds : Program → List Domain → Capped → Type 0
CapHolds program domains (AtMost cap) = (point : List ℕ) → LiesIn domains point → All (IsKept point) program.rows → value_of program point ≤ℤ cap
CapHolds program domains NoPoint = (point : List ℕ) → LiesIn domains point → ¬ All (IsKept point) program.rows
CapHolds program domains Bad = Unit {0}
