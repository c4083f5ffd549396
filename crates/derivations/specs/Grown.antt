-- Which answer on derivations is right.
use Rattle.std.specs.Prelude.{◌≡◌, ℕ, List, ◌∷◌, ◌++◌, length}
use Rattle.row_kit.specs.declared.domain.Domain.{Domain}
use Rattle.row_kit.specs.declared.program.Program.{Program}
use Rattle.derivations.specs.declared.derivation.Derivation.{Derivation}
use Rattle.derivations.specs.declared.grown.Grown.{Grown}
use Rattle.derivations.specs.declared.grown.Grown.TheVariants.{Whole, Unshown}
use Rattle.derivations.specs.Growth.{AreShown, Growth, IsShownDerivation, after_all}
use Rattle.derivations.specs.Larger.{IsWithDerivations, begun}

-- the first of derivations that is not shown stands at this place
pub record IsFirstUnshown (growth : Growth) (derivations : List Derivation) (place : ℕ) : Type 0 where
  pub before : List Derivation
  pub derivation : Derivation
  pub later : List Derivation
  pub listed : derivations ≡ before ++ derivation ∷ later
  pub shown : AreShown growth before
  pub unshown : ¬ IsShownDerivation (after_all growth before) derivation
  pub stands : place ≡ length before

-- what derivations lead to: the larger program where each is shown, and else the place of the first that is not
abbrev pub IsGrown : Program → List Domain → List Derivation → Grown → Type 0
IsGrown program domains derivations (Whole larger) = AreShown (begun program domains) derivations × IsWithDerivations program domains derivations larger
IsGrown program domains derivations (Unshown place) = IsFirstUnshown (begun program domains) derivations place
