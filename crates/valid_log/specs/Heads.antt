-- What the head of a log declares, and the rows to which it leads.
use Rattle.std.specs.Prelude.{◌≡◌, ◌⊎◌, ℕ, ◌+◌, ◌*◌, ◌==◌, if◌then◌else◌, List, [], ◌∷◌, ◌++◌, length, map, slice_index}
use Rattle.std.specs.List.{All, range_with_len}
use Rattle.stn_model.specs.declared.plant.Plant.{Plant}
use Rattle.row_kit.specs.declared.domain.Domain.{Domain}
use Rattle.row_kit.specs.declared.program.Program.{Program}
use Rattle.row_relax.specs.declared.rows.Rows.{Rows}
use Rattle.sum_slots.specs.declared.sum.Sum.{Sum}
use Rattle.sum_slots.specs.Larger.{IsWithSums, sum_domain}
use Rattle.sum_slots.specs.Shown.{IsShown}
use Rattle.setup_slots.specs.Several.{AreSetUp, choices_before, domains_with}
use Rattle.setup_slots.specs.Slots.{setup_slots}
use Rattle.setup_slots.specs.Rows.{setup_rows}
use Rattle.derivations.specs.declared.derivation.Derivation.{Derivation}
use Rattle.derivations.specs.Growth.{AreShown, rows_of}
use Rattle.derivations.specs.Grown.{IsFirstUnshown}
use Rattle.derivations.specs.Larger.{IsWithDerivations, begun}
use Rattle.log_lines.specs.declared.grammar.Limits.{Limits}
use Rattle.sum_lines.specs.declared.head.Head.{Head}
use Rattle.setup_lines.specs.declared.setups.SetupSize.{SetupSize}
use Rattle.setup_lines.specs.declared.setups.Setups.{Setups}
use Rattle.setup_lines.specs.declared.setups.SetupFront.{SetupFront}
use Rattle.setup_lines.specs.declared.setups.SetupFront.TheVariants as setting
use Rattle.setup_lines.specs.Front.{IsSetupFront}
use Rattle.derivation_lines.specs.declared.tail.Tail.{Tail}
use Rattle.derivation_lines.specs.declared.tail.TailFront.{TailFront}
use Rattle.derivation_lines.specs.declared.tail.TailFront.TheVariants.{Whole}
use Rattle.derivation_lines.specs.Front.{IsTailFront}
use Rattle.derivation_lines.specs.Tail.{tail_of}

-- the limits of a log over a program with so many sums: a slot and two rows more for each, and each has a value in points
abbrev pub limits_with : Program → ℕ → ℕ → Limits
limits_with program depth sums = record { rows = length program.rows + 2 * sums; slots = length program.root + sums; points = length program.root + sums; depth = depth }

-- how many slots and rows the setup of a unit has
abbrev pub setup_size : Plant → ℕ → SetupSize
setup_size plant unit = record { slots = length (setup_slots plant unit); rows = length (setup_rows plant unit) }

-- how many slots and rows the setup of each unit of a plant has
abbrev pub setup_sizes : Plant → List SetupSize
setup_sizes plant = map (setup_size plant) (range_with_len 0 (length plant.units))

-- the limits of a log behind a head with its setups and its derivations: a row more for each that is derived
abbrev pub limits_behind : Setups → Tail → Limits
limits_behind setups tail = let limits = setups.limits in record limits { rows = limits.rows + rows_of tail.derivations }

-- a head behind whose sums no setup stands
abbrev pub no_setups : Limits → Head → Setups
no_setups limits head = record { units = []; head = head; limits = limits }

-- what stands behind the sums of a head: setups in version 4, and none in version 3
abbrev pub AreSetups : Limits → List SetupSize → Head → List ℕ → SetupFront → Type 0
AreSetups limits sizes head bytes front = ((head.version ≡ 3) × (front ≡ setting.Whole (no_setups limits head))) ⊎ ((head.version ≡ 4) × IsSetupFront limits sizes head bytes front)

-- what stands behind the setups of a head: derivations in version 4, and none in version 3
abbrev pub IsTail : Limits → Head → List ℕ → TailFront → Type 0
IsTail limits head bytes front = ((head.version ≡ 3) × (front ≡ Whole (tail_of head []))) ⊎ ((head.version ≡ 4) × IsTailFront limits head bytes front)

-- the domains over which a head is judged: in version 3 those that show sums by what slots may have at all, in version 4 the root of the command
abbrev pub judged_over : List Domain → List Domain → ℕ → List Domain
judged_over ranges root version = if version == 3 then ranges else root

-- the domains of a program with sums: those over which its head is judged, and that of each sum
abbrev pub head_domains : Program → List Domain → List Sum → List Domain
head_domains program judged sums = judged ++ map (sum_domain program judged) sums

-- the domains of a program with sums and setups before any derivation
abbrev pub wide_domains : Plant → Program → List Domain → List Sum → List ℕ → List Domain
wide_domains plant program judged sums units = domains_with plant units (head_domains program judged sums)

-- The rows are those of a program of a plant with the sums, the setups and the derivations of a head of a version that is judged over
-- domains, and each sum and each derivation is shown; a head of version 3 has no setups, and leaves the root as it is.
pub record IsWithHead (plant : Plant) (version : ℕ) (program : Program) (judged : List Domain) (sums : List Sum) (units : List ℕ) (derivations : List Derivation) (rows : Rows) : Type 0 where
  pub sums_shown : All (IsShown program judged) sums
  pub between : Program
  pub with_sums : IsWithSums program judged sums between
  pub wide : Program
  pub with_setups : AreSetUp plant units between wide
  pub derivations_shown : AreShown (begun wide (wide_domains plant program judged sums units)) derivations
  pub grown : ((version ≡ 3) × (units ≡ []) × (rows.program ≡ wide)) ⊎ ((version ≡ 4) × IsWithDerivations wide (wide_domains plant program judged sums units) derivations rows.program)
  pub choices : rows.choices ≡ choices_before units between

-- the first of sums that is not shown begins on this line, where the sums begin on these lines
pub record IsUnshown (program : Program) (ranges : List Domain) (sums : List Sum) (lines : List ℕ) (line : ℕ) : Type 0 where
  pub before : List Sum
  pub sum : Sum
  pub later : List Sum
  pub listed : sums ≡ before ++ sum ∷ later
  pub shown : All (IsShown program ranges) before
  pub unshown : ¬ IsShown program ranges sum
  pub begins : line ≡ slice_index lines (length before)

-- the sums of a head are all shown, and the first of its derivations that is not shown, over the program with its setups, begins on this line
pub record IsUnderived (plant : Plant) (program : Program) (judged : List Domain) (sums : List Sum) (units : List ℕ) (tail : Tail) (line : ℕ) : Type 0 where
  pub sums_shown : All (IsShown program judged) sums
  pub between : Program
  pub with_sums : IsWithSums program judged sums between
  pub wide : Program
  pub with_setups : AreSetUp plant units between wide
  pub place : ℕ
  pub first : IsFirstUnshown (begun wide (wide_domains plant program judged sums units)) tail.derivations place
  pub begins : line ≡ slice_index tail.lines place

-- a head has a defect in its meaning, of this kind, at this line: 20 at the first sum that is not shown, and where there is none 23 at the first derived row that is not
abbrev pub HasHeadDefect : Plant → Program → List Domain → Setups → Tail → ℕ → ℕ → Type 0
HasHeadDefect plant program judged setups tail line kind =
    ((kind ≡ 20) × IsUnshown program judged setups.head.sums setups.head.lines line)
    ⊎ ((kind ≡ 23) × IsUnderived plant program judged setups.head.sums setups.units tail line)
