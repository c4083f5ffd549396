-- Images of plans in a program, and what a relaxation is.
use Rattle.std.specs.Prelude.{ℕ, List, ℤ, ◌≤ℤ◌}
use Rattle.row_kit.specs.declared.program.Program.{Program}
use Rattle.row_kit.specs.Point.{IsLawful, value_of, worth_of}

-- A point is an image of what earns so much: it lies in the root and keeps every row, its value is at least that, and so is what is
-- said of it where it is alone in a box.
pub record IsImage (program : Program) (alone : List ℕ → ℤ) (earned : ℤ) (point : List ℕ) : Type 0 where
  pub lawful : IsLawful program point
  pub value : earned ≤ℤ value_of program point
  pub said : earned ≤ℤ alone point

-- A program is a relaxation of some plans where each that is admitted has an image. Of points that are no images nothing is said.
pub record IsRelaxation {X : Type 0} (admits : X → Type 0) (earned : X → ℤ) (program : Program) (alone : List ℕ → ℤ) : Type 0 where
  pub image : X → List ℕ
  pub is : (plan : X) → admits plan → IsImage program alone (earned plan) (image plan)

-- a relaxation in which a point that is alone in a box counts what it is worth
abbrev pub Relaxes : {X : Type 0} → (X → Type 0) → (X → ℤ) → Program → Type 0
Relaxes admits earned program = IsRelaxation admits earned program (worth_of program)
