-- What the claim of a log says of a plant.
use Rattle.std.specs.Prelude.{◌≡◌, ◌↔◌, ℕ, List, length}
use Rattle.std.specs.List.{All}
use Rattle.std.specs.List.Sorted.{IsStrictlyIncreasing}
use Rattle.stn_model.specs.declared.plant.Plant.{Plant}
use Rattle.stn_model.specs.declared.start.Start.{Start}
use Rattle.stn_model.specs.Feasible.{Feasible}
use Rattle.stn_model.specs.Profit.{profit}
use Rattle.stn_model.specs.Sound.{Sound}
use Rattle.time_grid.specs.Slots.{slots}
use Rattle.row_kit.specs.declared.domain.Domain.{Domain}
use Rattle.row_kit.specs.declared.program.Program.{Program}
use Rattle.row_kit.specs.Point.{IsLawful, worth_of}
use Rattle.row_relax.specs.declared.rows.Rows.{Rows}
use Rattle.row_relax.specs.Choices.{plain}
use Rattle.row_set.specs.Parts.{IsAdmitted, IsPartOf, plan_of_values}
use Rattle.row_set.specs.PlantProgram.{IsMadeOf}
use Rattle.sum_slots.specs.declared.sum.Sum.{Sum}
use Rattle.sum_slots.specs.Shown.{AreRanges}
use Rattle.sum_slots.specs.Sum.{IsDeclared}
use Rattle.derivations.specs.declared.derivation.Derivation.{Derivation}
use Rattle.proof_log.specs.declared.claim.Claim.{Claim}
use Rattle.proof_log.specs.ClaimSays.{ClaimSays}
use Rattle.valid_log.specs.declared.verdict.LogVerdict.{LogVerdict}
use Rattle.valid_log.specs.AnyVersion.{given_claim}
use Rattle.valid_log.specs.Heads.{IsWithHead}
use Rattle.valid_log.specs.Verdict.{IfYes, IsBorneOut}

-- what a claim says of all admitted plans, where `optimal` says that its plan is admitted, has this profit, and is best
abbrev pub SaysOf : Plant → (List Start → Type 0) → Claim → Type 0
SaysOf plant admits claim = ClaimSays admits (profit plant) (plan_of_values plant) claim

-- what a claim says of all plans of the plant: each feasible one is admitted
abbrev pub SaysOfPlans : Plant → Claim → Type 0
SaysOfPlans plant claim = SaysOf plant (Feasible plant) claim

-- The program is the plant's, and its lawful points are the plant's plans: values are lawful exactly where
-- their plan is feasible, and then their worth is its profit.
pub record IsOfPlant (plant : Plant) (program : Program) : Type 0 where
  pub made : IsMadeOf plant program
  pub lawful : (point : List ℕ) → length point ≡ length (slots plant) → IsLawful program point ↔ Feasible plant (plan_of_values plant point)
  pub earned : (point : List ℕ) → IsLawful program point → worth_of program point ≡ profit plant (plan_of_values plant point)

-- where the answer is yes, what the claim says holds of all plans
abbrev pub YesSays : Plant → LogVerdict → Type 0
YesSays plant verdict = IfYes (SaysOfPlans plant) verdict

-- where the answer is yes, what the claim says holds of all plans that a part of the plant's choices admits
abbrev pub YesSaysOf : Plant → Program → LogVerdict → Type 0
YesSaysOf plant part verdict = IfYes (SaysOf plant (IsAdmitted plant part)) verdict

-- a claim that is borne out over the program of a part of a plant's choices says what it says of all plans that the part admits
abbrev pub PartsSay : Type 0
PartsSay = (plant : Plant) (part : Program) (claim : Claim) → Sound plant → IsPartOf plant part → IsBorneOut (plain part) claim → SaysOf plant (IsAdmitted plant part) claim

-- A claim that is borne out over the rows of a head, with setups of different units, over a part of a plant's choices says, when its point
-- is cut back to the plant's slots, what it says of all plans that the part admits.
abbrev pub HeadsSay : Type 0
HeadsSay =
    (plant : Plant) (version : ℕ) (part : Program) (judged : List Domain) (sums : List Sum) (units : List ℕ) (derivations : List Derivation) (rows : Rows) (claim : Claim) → Sound plant → IsPartOf plant part → AreRanges part judged
    → All (IsDeclared (length part.root)) sums → IsStrictlyIncreasing units → IsWithHead plant version part judged sums units derivations rows → IsBorneOut rows claim
    → SaysOf plant (IsAdmitted plant part) (given_claim (length part.root) claim)
