-- The total of a certificate over an area, and what it says of the lawful points.
use Rattle.std.specs.Prelude.{ℕ, ◌+◌, ◌<◌, ◌≤◌, nat_le, nat_lt, Bool, true, ◌&&◌, if◌then◌else◌, List, [], ◌∷◌, length, map, Option, Some, None, ℤ, pos, ◌+ℤ◌, ◌-ℤ◌, ◌*ℤ◌, ◌≤ℤ◌, fold}
use Rattle.std.specs.Int.{int_max}
use Rattle.std.specs.List.{All, list_all}
use Rattle.row_kit.specs.declared.domain.Domain.{Domain}
use Rattle.row_kit.specs.declared.program.Program.{Program}
use Rattle.row_kit.specs.declared.row.Row.{Row}
use Rattle.row_kit.specs.Domain.{count_of, values_of}
use Rattle.row_kit.specs.Point.{LiesIn, value_of}
use Rattle.row_kit.specs.Row.{entry_at, row_at, IsKept}
use Rattle.dual_bound.specs.declared.cert.Cert.{Cert}
use Rattle.dual_bound.specs.declared.cert.Mult.{Mult}

-- what the rows with factors count for a slot at a value: the sum of factor times entry
abbrev pub rows_at : List Row → List Mult → ℕ → ℕ → ℤ
rows_at rows [] slot value = pos 0
rows_at rows (mult ∷ mults) slot value = (pos mult.factor *ℤ entry_at (row_at rows mult.row).entries slot value) +ℤ rows_at rows mults slot value

-- the sum of factor times row limit
abbrev pub limits_sum : List Row → List Mult → ℤ
limits_sum rows [] = pos 0
limits_sum rows (mult ∷ mults) = (pos mult.factor *ℤ (row_at rows mult.row).limit) +ℤ limits_sum rows mults

-- what a slot gains at a value: scale times its profit entry, less the sum of factor times its row entry
abbrev pub gain : Program → Cert → ℕ → ℕ → ℤ
gain program cert slot value = (pos cert.scale *ℤ entry_at program.profit slot value) -ℤ rows_at program.rows cert.mults slot value

-- the greatest of a function over values
abbrev pub greatest : (ℕ → ℤ) → List ℕ → ℤ
greatest f [] = pos 0
greatest f (value ∷ values) = fold int_max (f value) (map f values)

-- the sum over slots, from a slot on, of the greatest over the values of the domain
abbrev pub slots_total : (ℕ → ℕ → ℤ) → ℕ → List Domain → ℤ
slots_total f slot [] = pos 0
slots_total f slot (domain ∷ domains) = greatest (f slot) (values_of domain) +ℤ slots_total f (slot + 1) domains

-- scale times the base, plus the sum of factor times row limit, plus the sum over slots of the greatest gain
abbrev pub total_of : Program → List Domain → Cert → ℤ
total_of program domains cert =
    ((pos cert.scale *ℤ program.base) +ℤ limits_sum program.rows cert.mults) +ℤ slots_total (gain program cert) 0 domains

-- factors keep their range, and rows ascend strictly, from a least number on and below the number of rows
abbrev pub are_fit : ℕ → ℕ → List Mult → Bool
are_fit rows least [] = true
are_fit rows least (mult ∷ mults) =
    nat_le 1 mult.factor && nat_le mult.factor 1099511627776 && nat_le least mult.row && nat_lt mult.row rows && are_fit rows (mult.row + 1) mults

-- a factor in its range, of a row that is there
pub record IsFitMult (rows : ℕ) (mult : Mult) : Type 0 where
  pub row : mult.row < rows
  pub factor : mult.factor ≤ 1099511627776

-- a certificate keeps its limits, and names rows of a program in ascending order
abbrev pub is_fit : ℕ → Cert → Bool
is_fit rows cert = nat_le cert.scale 1048576 && nat_le (length cert.mults) 50000 && are_fit rows 0 cert.mults

-- what a fit certificate keeps
pub record IsUsable (rows : ℕ) (cert : Cert) : Type 0 where
  pub scale : cert.scale ≤ 1048576
  pub few : length cert.mults ≤ 50000
  pub fit : All (IsFitMult rows) cert.mults

-- a certificate has a total over domains where it is fit and no domain is empty
abbrev pub has_total : Program → List Domain → Cert → Bool
has_total program domains cert = is_fit (length program.rows) cert && list_all (λ domain. nat_lt 0 (count_of domain)) domains

-- the total of a certificate over domains, where it has one
abbrev pub total_at : Program → List Domain → Cert → Option ℤ
total_at program domains cert = if has_total program domains cert then Some (total_of program domains cert) else None

-- scale times the value of a point of these domains that keeps every row is at most a number
abbrev pub BoundsScaled : Program → List Domain → ℕ → ℤ → Type 0
BoundsScaled program domains scale total =
    (point : List ℕ) → LiesIn domains point → All (IsKept point) program.rows → (pos scale *ℤ value_of program point) ≤ℤ total
