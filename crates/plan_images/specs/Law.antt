-- The laws of relaxations.
use Rattle.std.specs.Prelude.{◌≢◌, ℕ, List, length, Some, ℤ, ◌<ℤ◌}
use Rattle.std.specs.List.{All}
use Rattle.std.specs.List.Sorted.{IsStrictlyIncreasing}
use Rattle.stn_model.specs.declared.plant.Plant.{Plant}
use Rattle.stn_model.specs.declared.start.Start.{Start}
use Rattle.stn_model.specs.Profit.{profit}
use Rattle.stn_model.specs.Sound.{Sound}
use Rattle.row_kit.specs.declared.domain.Domain.{Domain}
use Rattle.row_kit.specs.declared.program.Program.{Program}
use Rattle.row_kit.specs.declared.row.Row.{Row}
use Rattle.row_kit.specs.Point.{IsLawful, LiesIn, worth_of}
use Rattle.row_kit.specs.Row.{IsKept}
use Rattle.row_set.specs.Parts.{IsAdmitted, IsPartOf}
use Rattle.proof_tree.specs.declared.capped.Capped.{Capped}
use Rattle.proof_tree.specs.declared.capped.Capped.TheVariants.{AtMost, Bad}
use Rattle.proof_tree.specs.Cap.{greater}
use Rattle.proof_tree.specs.Tree.{tree_cap}
use Rattle.proof_tree.specs.Views.{View}
use Rattle.row_relax.specs.RowProofs.{RowTree}
use Rattle.row_relax.specs.Choices.{plain, settle_of, settled_by}
use Rattle.row_relax.specs.View.{view_of}
use Rattle.sum_slots.specs.declared.sum.Sum.{Sum}
use Rattle.sum_slots.specs.Larger.{IsWithSums}
use Rattle.sum_slots.specs.Shown.{AreRanges, IsShown}
use Rattle.sum_slots.specs.Sum.{IsDeclared}
use Rattle.setup_slots.specs.Several.{AreSetUp}
use Rattle.derivations.specs.declared.derivation.Derivation.{Derivation}
use Rattle.derivations.specs.Growth.{AreShown}
use Rattle.derivations.specs.Larger.{IsWithDerivations, begun}
use Rattle.proof_log.specs.declared.claim.Claim.{Claim}
use Rattle.proof_log.specs.ClaimSays.{ClaimSays}
use Rattle.plan_images.specs.Boxes.{Judges, LosesNone, SettlesBy, worth_by}
use Rattle.plan_images.specs.Caps.{Caps}
use Rattle.plan_images.specs.Extensions.{Extends, IsWithRows}
use Rattle.plan_images.specs.Images.{IsImage, IsRelaxation, Relaxes}
use Rattle.plan_images.specs.Told.{IsBorne, ReadsAs}

-- a program is a relaxation of the plans that a part of a plant's choices admits
abbrev pub RelaxesPart : Plant → Program → Program → (List ℕ → ℤ) → Type 0
RelaxesPart plant part program alone = IsRelaxation (IsAdmitted plant part) (profit plant) program alone

-- the program of a plant, or of a part of its choices, is a relaxation of the plans that it admits
abbrev pub PartsRelax : Type 0
PartsRelax = (plant : Plant) (part : Program) → IsPartOf plant part → Relaxes (IsAdmitted plant part) (profit plant) part

-- a program with sums that are shown extends the one without them
abbrev pub SumsExtend : Type 0
SumsExtend =
    (given larger : Program) (ranges : List Domain) (sums : List Sum) → AreRanges given ranges → All (IsDeclared (length given.root)) sums → All (IsShown given ranges) sums
    → IsWithSums given ranges sums larger → Extends given (worth_of given) larger (worth_of larger)

-- a program with derivations that are shown extends the one without them
abbrev pub DerivationsExtend : Type 0
DerivationsExtend =
    (given larger : Program) (domains : List Domain) (derivations : List Derivation) → AreRanges given domains → AreShown (begun given domains) derivations → IsWithDerivations given domains derivations larger
    → Extends given (worth_of given) larger (worth_of larger)

-- the program of a part with sums and then the setups of different units is a relaxation of the plans that the part admits, in which a point that is alone counts what its first values are worth without the setups
abbrev pub SetupsRelax : Type 0
SetupsRelax =
    (plant : Plant) (part between wide : Program) (ranges : List Domain) (sums : List Sum) (units : List ℕ) → Sound plant → IsPartOf plant part → AreRanges part ranges → All (IsDeclared (length part.root)) sums → All (IsShown part ranges) sums
    → IsWithSums part ranges sums between → IsStrictlyIncreasing units → AreSetUp plant units between wide → RelaxesPart plant part wide (worth_by between)

-- a relaxation stays one, with the same images, where derivations are added that are shown
abbrev pub DerivationsKeep : Type 0
DerivationsKeep =
    (plant : Plant) (part given larger : Program) (alone : List ℕ → ℤ) (domains : List Domain) (derivations : List Derivation) → RelaxesPart plant part given alone → AreRanges given domains → AreShown (begun given domains) derivations
    → IsWithDerivations given domains derivations larger → RelaxesPart plant part larger alone

-- a program judges the points of itself with the setups of units
abbrev pub SetupsAreJudged : Type 0
SetupsAreJudged = (plant : Plant) (units : List ℕ) (between wide : Program) → AreSetUp plant units between wide → Judges between wide

-- what judges the points of a program judges those of the program with derivations that are shown
abbrev pub DerivationsAreJudged : Type 0
DerivationsAreJudged =
    (choices given larger : Program) (domains : List Domain) (derivations : List Derivation) → AreRanges given domains → AreShown (begun given domains) derivations → IsWithDerivations given domains derivations larger → Judges choices given
    → Judges choices larger

-- a relaxation stays one, with the same images, where rows are added that each image keeps, and the root is narrowed to domains in which each image lies
abbrev pub RowsExtend : Type 0
RowsExtend =
    (plant : Plant) (part given larger : Program) (alone : List ℕ → ℤ) (more : List Row) (domains : List Domain) (is : RelaxesPart plant part given alone) → ((plan : List Start) → IsAdmitted plant part plan → All (IsKept (is.image plan)) more × LiesIn domains (is.image plan))
    → IsWithRows given more domains larger → RelaxesPart plant part larger alone

-- what extends a relaxation is one
abbrev pub ExtensionsCompose : Type 0
ExtensionsCompose =
    (plant : Plant) (part given larger : Program) (alone larger_alone : List ℕ → ℤ) → RelaxesPart plant part given alone → Extends given alone larger larger_alone → RelaxesPart plant part larger larger_alone

-- no step of a proof loses an image, but that a split may forget one of what earns no more than its floor
abbrev pub NoneIsLost : Type 0
NoneIsLost = (program : Program) (alone : List ℕ → ℤ) (earned : ℤ) (point : List ℕ) → IsImage program alone earned point → LosesNone program point

-- the rows of a program settle a box by what its point is worth
abbrev pub RowsSettle : Type 0
RowsSettle = (program : Program) → SettlesBy program (settle_of (plain program)) (worth_of program)

-- rows that come with choices which judge their points settle a box by what the first values of its point are worth by the choices
abbrev pub ChoicesSettle : Type 0
ChoicesSettle = (program choices : Program) → Judges choices program → SettlesBy program (settle_of (record { program = program; choices = Some choices })) (worth_by choices)

-- the cap of a proof over a relaxation allows what each admitted plan earns
abbrev pub TreesCap : Type 0
TreesCap =
    (plant : Plant) (part program : Program) (alone : List ℕ → ℤ) (settle : View → Capped) → SettlesBy program settle alone → RelaxesPart plant part program alone
    → (tree : RowTree) → Caps (IsAdmitted plant part) (profit plant) (tree_cap (settled_by program settle) (view_of program.root) tree)

-- where a cap allows what each plan earns that earns more than a number, the greater of both allows what each plan earns
abbrev pub CapsAreFloored : Type 0
CapsAreFloored =
    (plant : Plant) (part : Program) (floor : ℤ) (cap : Capped) → Caps (λ plan. IsAdmitted plant part plan × (floor <ℤ profit plant plan)) (profit plant) cap
    → Caps (IsAdmitted plant part) (profit plant) (greater (AtMost floor) cap)

-- what a claim says holds of the plans, where a cap bears it out that allows what each of them earns
abbrev pub ClaimsAreBorne : Type 0
ClaimsAreBorne =
    (plant : Plant) (part : Program) (of_values : List ℕ → List Start) (cap : Capped) (claim : Claim) → cap ≢ Bad → Caps (IsAdmitted plant part) (profit plant) cap
    → IsBorne (IsAdmitted plant part) (profit plant) of_values cap claim → ClaimSays (IsAdmitted plant part) (profit plant) of_values claim

-- what a claim says of all points of a relaxation it says of the plans
abbrev pub ClaimsAreTold : Type 0
ClaimsAreTold =
    (plant : Plant) (part program : Program) (of_values : List ℕ → List Start) (claim : Claim) → Relaxes (IsAdmitted plant part) (profit plant) program → ReadsAs program (IsAdmitted plant part) (profit plant) of_values
    → ClaimSays (IsLawful program) (worth_of program) (λ point. point) claim → ClaimSays (IsAdmitted plant part) (profit plant) of_values claim
