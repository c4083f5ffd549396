-- The setups of units, what they add to a program, and what they keep.
use Rattle.std.specs.Prelude.{◌≡◌, ◌+◌, ◌^◌, ◌<◌, nat_le, ◌&&◌, Bool, true, ℕ, Option, Some, None, List, [], ◌∷◌, length, slice_index_or}
use Rattle.std.specs.List.{All}
use Rattle.std.specs.List.Sorted.{IsStrictlyIncreasing}
use Rattle.log_lines.specs.declared.grammar.Limits.{Limits}
use Rattle.log_lines.specs.Grammar.{follows}
use Rattle.sum_lines.specs.declared.head.Head.{Head}
use Rattle.sum_lines.specs.Head.{most_rows, most_slots}
use Rattle.sum_lines.specs.Line.{IsShort}
use Rattle.setup_lines.specs.declared.setups.SetupSize.{SetupSize}
use Rattle.setup_lines.specs.declared.setups.Setups.{Setups}
use Rattle.setup_lines.specs.Line.{setups_text}

-- what the setup of a unit adds to a program: nothing where the unit is not there
abbrev pub size_of : List SetupSize → ℕ → SetupSize
size_of sizes unit = slice_index_or sizes unit (record { slots = 0; rows = 0 })

-- the limits of a program with a setup of this size more: its slots and rows are more, and those of points stay
abbrev pub with_setup : Limits → SetupSize → Limits
with_setup limits size = record limits { slots = limits.slots + size.slots; rows = limits.rows + size.rows }

-- the limits of a program with the setups of these units more
abbrev pub limits_set_up : Limits → List SetupSize → List ℕ → Limits
limits_set_up limits sizes [] = limits
limits_set_up limits sizes (unit ∷ units) = limits_set_up (with_setup limits (size_of sizes unit)) sizes units

-- a log of version 4 has room for a program of these limits: 4,096 slots and 400,000 rows
abbrev pub has_setup_room : Limits → Bool
has_setup_room limits = nat_le limits.slots (most_slots 4) && nat_le limits.rows (most_rows 4)

-- the last of some units, and the one before them where there is none
abbrev pub last_unit : Option ℕ → List ℕ → Option ℕ
last_unit above [] = above
last_unit above (unit ∷ units) = last_unit (Some unit) units

-- the setup of a unit may be declared after that of another: the unit follows it, and has at most 30 digits
abbrev pub MaySetUp : Option ℕ → ℕ → Type 0
MaySetUp above unit = IsShort unit × (follows above unit ≡ true)

-- the setups of units keep the limits: the units have at most 30 digits, ascend and are there, and where there are any, there is room for the program with all of them
pub record AreSetupsKept (limits : Limits) (sizes : List SetupSize) (units : List ℕ) : Type 0 where
  pub short : All IsShort units
  pub ascending : IsStrictlyIncreasing units
  pub there : All (λ unit. unit < length sizes) units
  pub room : 0 < length units → has_setup_room (limits_set_up limits sizes units) ≡ true

-- a head with the lines and bytes of the setups of these units counted in
abbrev pub head_set_up : Head → List ℕ → Head
head_set_up head units = record head { count = head.count + length units; bytes = head.bytes + length (setups_text units) }

-- the setups of these units behind a head
abbrev pub setups_of : Limits → List SetupSize → Head → List ℕ → Setups
setups_of limits sizes head units = record { units = units; head = head_set_up head units; limits = limits_set_up limits sizes units }

-- the setups behind a head are those of their units, which keep the limits, and end before 2^64 bytes
pub record IsSetupsKept (limits : Limits) (sizes : List SetupSize) (head : Head) (setups : Setups) : Type 0 where
  pub is : setups ≡ setups_of limits sizes head setups.units
  pub units : AreSetupsKept limits sizes setups.units
  pub bytes_most : setups.head.bytes < 2 ^ 64
