-- What stands in a log of version 4 behind its sums.
use Rattle.std.specs.Prelude.{◌≡◌, ⊤, ◌+◌, nat_lt, if◌then◌else◌, ℕ, Option, Some, None, List, ◌++◌, length, drop}
use Rattle.log_lines.specs.declared.defect.Defect.{Defect}
use Rattle.log_lines.specs.declared.grammar.Limits.{Limits}
use Rattle.sum_lines.specs.declared.head.Head.{Head}
use Rattle.sum_lines.specs.Front.{BeginsWith}
use Rattle.setup_lines.specs.declared.setups.SetupFront.{SetupFront}
use Rattle.setup_lines.specs.declared.setups.SetupFront.TheVariants.{Whole, Bad}
use Rattle.setup_lines.specs.declared.setups.SetupSize.{SetupSize}
use Rattle.setup_lines.specs.declared.setups.Setups.{Setups}
use Rattle.setup_lines.specs.Line.{setup_line, setups_text}
use Rattle.setup_lines.specs.Setups.{AreSetupsKept, IsSetupsKept, MaySetUp, has_setup_room, last_unit, limits_set_up, size_of, with_setup}

-- no line of a unit of some kind stands first in bytes
abbrev pub NoneFirst : (ℕ → Type 0) → List ℕ → Type 0
NoneFirst P bytes = (unit : ℕ) → P unit → ¬ BeginsWith (setup_line unit) bytes

-- the kind of the defect of a unit's setup under the limits with those before it: 24 where the unit is not there, else 21 where there is no room
abbrev pub setup_defect : Limits → List SetupSize → ℕ → Option ℕ
setup_defect limits sizes unit =
    if nat_lt unit (length sizes) then (if has_setup_room (with_setup limits (size_of sizes unit)) then None else Some 21) else Some 24

-- the setup of a unit that follows the last one is declared first in bytes, and has a defect of this kind
pub record IsBadNext (limits : Limits) (sizes : List SetupSize) (above : Option ℕ) (bytes : List ℕ) (kind : ℕ) : Type 0 where
  pub unit : ℕ
  pub may : MaySetUp above unit
  pub first : BeginsWith (setup_line unit) bytes
  pub defect : setup_defect limits sizes unit ≡ Some kind

-- after the lines of units, the first of which has a number, the next line has this defect
pub record IsBadAt (limits : Limits) (sizes : List SetupSize) (above : Option ℕ) (number : ℕ) (units bytes : List ℕ) (defect : Defect) : Type 0 where
  pub rest : List ℕ
  pub is : bytes ≡ setups_text units ++ rest
  pub line : defect.line ≡ number + length units
  pub bad : IsBadNext limits sizes above rest defect.kind

-- behind a head, after whole setups that keep the limits, the next line has this defect
pub record IsBadSetup (limits : Limits) (sizes : List SetupSize) (head : Head) (bytes : List ℕ) (defect : Defect) : Type 0 where
  pub units : List ℕ
  pub kept : AreSetupsKept limits sizes units
  pub bad : IsBadAt (limits_set_up limits sizes units) sizes (last_unit None units) (1 + head.count) units (drop head.bytes bytes) defect

-- behind a head the text of setups stands, which keep the limits, and after it no line stands first that declares that of a later unit
pub record IsSetUp (limits : Limits) (sizes : List SetupSize) (head : Head) (bytes : List ℕ) (setups : Setups) : Type 0 where
  pub kept : IsSetupsKept limits sizes head setups
  pub is : drop head.bytes bytes ≡ setups_text setups.units ++ drop setups.head.bytes bytes
  pub ends : NoneFirst (MaySetUp (last_unit None setups.units)) (drop setups.head.bytes bytes)

-- what stands in bytes behind a head: setups, maybe none; or their first defect
abbrev pub IsSetupFront : Limits → List SetupSize → Head → List ℕ → SetupFront → Type 0
IsSetupFront limits sizes head bytes (Whole setups) = IsSetUp limits sizes head bytes setups
IsSetupFront limits sizes head bytes (Bad defect) = IsBadSetup limits sizes head bytes defect

-- the setups, where there is no defect, keep the limits
abbrev pub SetupsKeepLimits : Limits → List SetupSize → Head → SetupFront → Type 0
SetupsKeepLimits limits sizes head (Whole setups) = IsSetupsKept limits sizes head setups
SetupsKeepLimits limits sizes head (Bad _) = ⊤
