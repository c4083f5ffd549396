-- What a domain holds, and how domains narrow.
use Rattle.std.specs.Prelude.{◌≡◌, ℕ, ◌+◌, ◌-◌, ◌<◌, ◌≤◌, min, max, Bool, true, false, ◌&&◌, if◌then◌else◌, nat_le, slice_index_or, List, [], ◌∷◌, ◌++◌}
use Rattle.std.specs.List.{range_with_len}
use Rattle.row_kit.specs.declared.domain.Domain.{Domain}

-- a domain holds 0 where `zero` says so, and a value of 1 or more where it lies in `lo` to `hi`
pub record Holds (domain : Domain) (value : ℕ) : Type 0 where
  pub at_zero : value ≡ 0 → domain.zero ≡ true
  pub above_zero : 0 < value → (domain.lo ≤ value) × (value ≤ domain.hi)

-- a normal domain holds bytes, has `lo` 1 or more, and is written with `lo` 1 and `hi` 0 where it holds no value of 1 or more
pub record IsNormal (domain : Domain) : Type 0 where
  pub positive : 1 ≤ domain.lo
  pub byte : domain.hi ≤ 255
  pub bare : domain.hi < domain.lo → (domain.lo ≡ 1) × (domain.hi ≡ 0)

-- the values of a domain, in ascending order
abbrev pub values_of : Domain → List ℕ
values_of domain = (if domain.zero then 0 ∷ [] else []) ++ range_with_len domain.lo (domain.hi + 1 - domain.lo)

-- how many values a domain holds
abbrev pub count_of : Domain → ℕ
count_of domain = (if domain.zero then 1 else 0) + (domain.hi + 1 - domain.lo)

-- a domain that holds a value
abbrev pub IsOpen : Domain → Type 0
IsOpen domain = 0 < count_of domain

-- a domain that holds no value
abbrev pub IsBare : Domain → Type 0
IsBare domain = count_of domain ≡ 0

-- a domain that holds one value
abbrev pub IsSingle : Domain → Type 0
IsSingle domain = count_of domain ≡ 1

-- the domain that holds nothing
abbrev pub no_values : Domain
no_values = record { zero = false; lo = 1; hi = 0 }

-- the domain of a slot, which holds nothing where there is no such slot
abbrev pub domain_at : List Domain → ℕ → Domain
domain_at domains slot = slice_index_or domains slot no_values

-- the normal domain of the values from `lo` to `hi`, and of 0 where it is wanted
abbrev pub normal : Bool → ℕ → ℕ → Domain
normal with_zero lo hi =
    if nat_le lo hi then record { zero = with_zero; lo = lo; hi = hi } else record { zero = with_zero; lo = 1; hi = 0 }

-- the values that two domains share
abbrev pub shared : Domain → Domain → Domain
shared a b = normal (a.zero && b.zero) (max a.lo b.lo) (min a.hi b.hi)

-- all values up to one
abbrev pub up_to : ℕ → Domain
up_to most = normal true 1 most

-- all values of a byte above one
abbrev pub over : ℕ → Domain
over least = normal false (least + 1) 255
