-- That sums change neither the lawful points nor what they are worth.
use Rattle.std.specs.Prelude.{◌≡◌, ◌↔◌, ℕ, List, length}
use Rattle.std.specs.List.{All}
use Rattle.row_kit.specs.declared.domain.Domain.{Domain}
use Rattle.row_kit.specs.declared.program.Program.{Program}
use Rattle.row_kit.specs.Point.{IsLawful, worth_of}
use Rattle.sum_slots.specs.declared.sum.Sum.{Sum}
use Rattle.sum_slots.specs.Larger.{IsWithSums, completed, given_of}
use Rattle.sum_slots.specs.Shown.{AreRanges, IsShown}
use Rattle.sum_slots.specs.Sum.{IsByte, IsDeclared, sum_value}

-- a point is a lawful point of a program, followed by the values that sums have there
abbrev pub IsCompleted : Program → List Sum → List ℕ → Type 0
IsCompleted program sums point = IsLawful program (given_of program point) × (point ≡ completed sums (given_of program point))

-- a program with sums has the same lawful points as without, each followed by the values of the sums there, which are bytes, and each is worth the same
pub record IsSameWithSums (program : Program) (sums : List Sum) (larger : Program) : Type 0 where
  pub points : (point : List ℕ) → IsLawful larger point ↔ IsCompleted program sums point
  pub given : (point : List ℕ) → IsLawful program point → given_of program (completed sums point) ≡ point
  pub bytes : (point : List ℕ) → IsLawful program point → All (λ sum. IsByte (sum_value sum point)) sums
  pub worth : (point : List ℕ) → IsLawful program point → worth_of larger (completed sums point) ≡ worth_of program point

-- where each sum is declared over a program, and shown by domains in which its points lie, the program with the sums has the same lawful points, of the same worth
abbrev pub SumsLaw : Type 0
SumsLaw =
    (program larger : Program) (ranges : List Domain) (sums : List Sum) → AreRanges program ranges → All (IsDeclared (length program.root)) sums
    → All (IsShown program ranges) sums → IsWithSums program ranges sums larger → IsSameWithSums program sums larger
