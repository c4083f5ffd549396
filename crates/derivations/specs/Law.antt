-- That derivations change neither the lawful points nor what they are worth.
use Rattle.std.specs.Prelude.{◌≡◌, ◌↔◌, ℕ, List, length}
use Rattle.std.specs.List.{All}
use Rattle.row_kit.specs.declared.domain.Domain.{Domain}
use Rattle.row_kit.specs.declared.program.Program.{Program}
use Rattle.row_kit.specs.Domain.{IsNormal}
use Rattle.row_kit.specs.Point.{IsLawful, LiesIn, worth_of}
use Rattle.derivations.specs.declared.derivation.Derivation.{Derivation}
use Rattle.derivations.specs.Anew.{IsWithAnew}
use Rattle.derivations.specs.Growth.{AreShown}
use Rattle.derivations.specs.Larger.{IsWithDerivations, begun}

-- two programs have the same lawful points, each of the same worth
pub record IsSame (program other : Program) : Type 0 where
  pub points : (point : List ℕ) → IsLawful other point ↔ IsLawful program point
  pub worth : (point : List ℕ) → worth_of other point ≡ worth_of program point

-- where derivations are shown over domains in which the points of a program's root lie, the program with them has the same lawful points, of the same worth
abbrev pub DerivationsHold : Type 0
DerivationsHold =
    (program larger : Program) (domains : List Domain) (derivations : List Derivation) → length domains ≡ length program.root → All IsNormal domains
    → ((point : List ℕ) → LiesIn program.root point → LiesIn domains point) → AreShown (begun program domains) derivations → IsWithDerivations program domains derivations larger
    → IsSame program larger

-- so has the program with derivations that are looked at anew, whether they are shown there or not
abbrev pub AnewHold : Type 0
AnewHold =
    (program larger : Program) (domains : List Domain) (derivations : List Derivation) → length domains ≡ length program.root → All IsNormal domains
    → ((point : List ℕ) → LiesIn program.root point → LiesIn domains point) → IsWithAnew program domains derivations larger → IsSame program larger

-- where each is shown, derivations that are looked at anew lead to the program with them
abbrev pub ShownStand : Type 0
ShownStand =
    (program larger : Program) (domains : List Domain) (derivations : List Derivation) → AreShown (begun program domains) derivations → IsWithAnew program domains derivations larger
    → IsWithDerivations program domains derivations larger
