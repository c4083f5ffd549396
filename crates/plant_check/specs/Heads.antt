-- What is held of a head while a log is checked.
use Rattle.std.specs.Prelude.{◌≡◌, ◌^◌, ◌<◌, ◌≤◌, ⊤, ℕ, Option, List, [], length, slice_index, Result}
use Rattle.std.specs.Result.{MatchResult}
use Rattle.stn_model.specs.declared.plant.Plant.{Plant}
use Rattle.stn_model.specs.Sound.{Sound}
use Rattle.log_lines.specs.declared.defect.Defect.{Defect}
use Rattle.log_lines.specs.declared.grammar.Limits.{Limits}
use Rattle.row_kit.specs.declared.domain.Domain.{Domain}
use Rattle.row_kit.specs.declared.program.Program.{Program}
use Rattle.row_relax.specs.declared.rows.Rows.{Rows}
use Rattle.row_set.specs.Parts.{IsPartOf}
use Rattle.sum_slots.specs.Shown.{AreRanges}
use Rattle.sum_lines.specs.declared.head.Head.{Head}
use Rattle.sum_lines.specs.Head.{AreKept, IsHeadVersion}
use Rattle.setup_lines.specs.declared.setups.SetupFront.{SetupFront}
use Rattle.setup_lines.specs.declared.setups.SetupFront.TheVariants as setting
use Rattle.setup_lines.specs.declared.setups.SetupSize.{SetupSize}
use Rattle.setup_lines.specs.declared.setups.Setups.{Setups}
use Rattle.setup_lines.specs.Setups.{AreSetupsKept, IsSetupsKept, limits_set_up}
use Rattle.derivations.specs.Growth.{AreShown}
use Rattle.derivations.specs.Grown.{IsFirstUnshown}
use Rattle.derivations.specs.Larger.{IsWithDerivations, begun}
use Rattle.derivation_lines.specs.declared.tail.Tail.{Tail}
use Rattle.derivation_lines.specs.declared.tail.TailFront.{TailFront}
use Rattle.derivation_lines.specs.declared.tail.TailFront.TheVariants.{Whole, Bad}
use Rattle.derivation_lines.specs.Tail.{IsTailKept}
use Rattle.valid_log.specs.Heads.{HasHeadDefect, IsWithHead, limits_with, setup_sizes}
use Rattle.plant_check.specs.declared.check.CheckedPart.{CheckedPart}

-- a log is checked over a part of a sound plant's choices, and its head over domains in which the points of the part lie
pub record IsPartOver (checked : CheckedPart) (judged : List Domain) : Type 0 where
  pub sound : Sound checked.plant.now
  pub part : IsPartOf checked.plant.now checked.program
  pub ranges : AreRanges checked.program judged

-- the sums of a head keep the limits of a program, and the setups behind them those of it with the sums, which then are the setups' limits; in version 3 there are no setups
pub record IsHeadHeld (plant : Plant) (program : Program) (depth : ℕ) (setups : Setups) : Type 0 where
  pub version : IsHeadVersion setups.head.version
  pub sums : AreKept setups.head.version (limits_with program depth 0) setups.head.sums
  pub lines : length setups.head.lines ≡ length setups.head.sums
  pub units : AreSetupsKept (limits_with program depth (length setups.head.sums)) (setup_sizes plant) setups.units
  pub limits : setups.limits ≡ limits_set_up (limits_with program depth (length setups.head.sums)) (setup_sizes plant) setups.units
  pub none : setups.head.version ≡ 3 → setups.units ≡ []
  pub count : 1 ≤ setups.head.count
  pub bytes : setups.head.bytes < 2 ^ 64

-- the setups behind the sums of a head are those of their units, which keep the limits, and in version 3 there are none
pub record IsSetupsHeld (limits : Limits) (sizes : List SetupSize) (head : Head) (setups : Setups) : Type 0 where
  pub kept : IsSetupsKept limits sizes head setups
  pub none : head.version ≡ 3 → setups.units ≡ []

-- what is held of what stands behind the sums of a head
abbrev pub AreSetupsHeld : Limits → List SetupSize → Head → SetupFront → Type 0
AreSetupsHeld limits sizes head (setting.Whole setups) = IsSetupsHeld limits sizes head setups
AreSetupsHeld limits sizes head (setting.Bad defect) = ⊤

-- the derivations behind a head keep the limits, and in version 3 there are none
pub record IsTailHeld (limits : Limits) (head : Head) (tail : Tail) : Type 0 where
  pub kept : IsTailKept limits head tail
  pub none : head.version ≡ 3 → tail.derivations ≡ []

-- what is held of what stands behind the setups of a head
abbrev pub IsFrontHeld : Limits → Head → TailFront → Type 0
IsFrontHeld limits head (Whole tail) = IsTailHeld limits head tail
IsFrontHeld limits head (Bad defect) = ⊤

-- the rows with the sums, setups and derivations of a head, or what is wrong with their meaning
abbrev pub IsJudged : Plant → Program → List Domain → Setups → Tail → Result Rows Defect → Type 0
IsJudged plant program judged setups tail result =
    MatchResult result (IsWithHead plant setups.head.version program judged setups.head.sums setups.units tail.derivations) (λ defect. HasHeadDefect plant program judged setups tail defect.line defect.kind)

-- derivations over domains are shown, and the rows are those of a program with them, whose points these choices judge
pub record AreDerived (given : Program) (choices : Option Program) (domains : List Domain) (tail : Tail) (rows : Rows) : Type 0 where
  pub shown : AreShown (begun given domains) tail.derivations
  pub grown : IsWithDerivations given domains tail.derivations rows.program
  pub choices_are : rows.choices ≡ choices

-- the first of derivations over domains that is not shown begins on the line of a defect of kind 23
pub record IsUnderivedAt (given : Program) (domains : List Domain) (tail : Tail) (defect : Defect) : Type 0 where
  pub kind : defect.kind ≡ 23
  pub place : ℕ
  pub first : IsFirstUnshown (begun given domains) tail.derivations place
  pub begins : defect.line ≡ slice_index tail.lines place
