-- Stands in specs/ since clauses of private functions cite it; no public clause does.
-- A walk over the lines of setups in a file, from a place on, and what each begins.
use Rattle.std.specs.Prelude.{◌≡◌, ◌+◌, ℕ, Option, Some, None, IfSome, List, [], ◌∷◌, ◌++◌, length, drop}
use Rattle.log_lines.specs.declared.grammar.Limits.{Limits}
use Rattle.stn_edge.specs.Files.{FileMap, file_of}
use Rattle.sum_lines.specs.declared.walk.Walk.{Walk}
use Rattle.sum_lines.specs.Line.{IsShort}
use Rattle.sum_lines.specs.Walk.{IsAfter}
use Rattle.setup_lines.specs.declared.beginning.Begun.{Begun}
use Rattle.setup_lines.specs.declared.beginning.Begun.TheVariants as begun
use Rattle.setup_lines.specs.declared.setups.SetupSize.{SetupSize}
use Rattle.setup_lines.specs.Front.{NoneFirst, setup_defect}
use Rattle.setup_lines.specs.Line.{setups_text}
use Rattle.setup_lines.specs.Setups.{MaySetUp}

-- what is left of a file after the lines of units that stand from a place on
abbrev pub rest_after : ℕ → List ℕ → List ℕ → List ℕ
rest_after start units file = drop (start + length (setups_text units)) file

-- a walk over the file of a name, where it is told, has passed the lines of these units, which stand from a place on, and the first of which has a number
pub record HasPassed (files : Option FileMap) (name : List ℕ) (start number : ℕ) (units : List ℕ) (walk : Walk) : Type 0 where
  pub line : walk.line ≡ number + length units
  pub after : IsAfter files name start (setups_text units) walk

-- what is seen after the lines of these units: that of one more, or another
abbrev pub HasSeen : Option FileMap → List ℕ → ℕ → ℕ → List ℕ → Walk → Option ℕ → Type 0
HasSeen told name start number units walk (Some unit) = IsShort unit × HasPassed told name start number (units ++ unit ∷ []) walk
HasSeen told name start number units walk None = IfSome told (λ m. NoneFirst IsShort (rest_after start units (file_of m name)))

-- the setup of a unit keeps the limits with those before it: it may be declared after the last one, and has no defect
abbrev pub IsSetupKept : Limits → List SetupSize → Option ℕ → ℕ → Type 0
IsSetupKept limits sizes above unit = MaySetUp above unit × (setup_defect limits sizes unit ≡ None)

-- what the line of a unit that follows the last one begins: its setup, or its defect
abbrev pub IsBegunUnit : Limits → List SetupSize → ℕ → Begun → Type 0
IsBegunUnit limits sizes unit (begun.Unit own) = (own ≡ unit) × (setup_defect limits sizes unit ≡ None)
IsBegunUnit limits sizes unit (begun.Bad kind) = setup_defect limits sizes unit ≡ Some kind
IsBegunUnit limits sizes unit begun.Nothing = ⊥

-- what a line that is seen after the last unit begins: a setup, its defect, or nothing where it may begin none
abbrev pub IsBegun : Limits → List SetupSize → Option ℕ → Option ℕ → Begun → Type 0
IsBegun limits sizes above shown (begun.Unit unit) = (shown ≡ Some unit) × IsSetupKept limits sizes above unit
IsBegun limits sizes above shown (begun.Bad kind) = (unit : ℕ) × (shown ≡ Some unit) × MaySetUp above unit × (setup_defect limits sizes unit ≡ Some kind)
IsBegun limits sizes above shown begun.Nothing = (unit : ℕ) → shown ≡ Some unit → ¬ MaySetUp above unit
