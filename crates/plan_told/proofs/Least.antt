-- The least point of a program with its worth, where it is lawful.
use Rattle.std.proofs.Common.{◌≡◌, ℕ, ℤ, Bool, true, false, cond, List, Some, None, refl, sym, ap, ◌∙◌, subst}
use Rattle.row_kit.specs.declared.found.Found.{Found}
use Rattle.row_kit.specs.declared.program.Program.{Program}
use Rattle.row_kit.specs.Point.{IsLawful, worth_of}
use Rattle.row_relax.specs.Settle.{is_lawful, only_point}
use Rattle.row_relax.specs.laws.Lawful.{lawful_true, true_lawful}
use Rattle.plan_told.specs.Given.{least_found}

-- a test does not both hold and fail
true_false : (b : Bool) → b ≡ true → b ≡ false → ⊥
true_false b holds fails = cc

-- a point with a worth
abbrev pub with_worth : List ℕ → ℤ → Found
with_worth point value = record { value = value; point = point }

-- where the least point fails the test, there is none
pub least-none : (program : Program) (point : List ℕ) (passed : Bool) → point ≡ only_point program.root → (IsLawful program point → passed ≡ true) → passed ≡ false → None ≡ least_found program
least-none program point passed is all fails = at (is_lawful program (only_point program.root)) refl
  where
    at : (lawful : Bool) → is_lawful program (only_point program.root) ≡ lawful → None ≡ cond lawful (Some (with_worth (only_point program.root) (worth_of program (only_point program.root)))) None
    at true holds = absurd (true_false passed (all (subst (IsLawful program) (sym is) (true_lawful program (only_point program.root) holds))) fails)
    at false holds = refl

-- where it passes, it is found with its worth
pub least-some : (program : Program) (point : List ℕ) (value : ℤ) → point ≡ only_point program.root → IsLawful program point → value ≡ worth_of program point
    → Some (with_worth point value) ≡ least_found program
least-some program point value is lawful worth = at (is_lawful program (only_point program.root)) (lawful_true program (only_point program.root) (subst (IsLawful program) is lawful))
  where
    at : (lawful : Bool) → lawful ≡ true → Some (with_worth point value) ≡ cond lawful (Some (with_worth (only_point program.root) (worth_of program (only_point program.root)))) None
    at true holds = let valued : value ≡ worth_of program (only_point program.root) = worth ∙ ap (worth_of program) is in cc
    at false holds = cc
