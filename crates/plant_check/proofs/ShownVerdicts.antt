-- The answer on a log behind a head.
use Rattle.std.proofs.Common.{ℕ, List, length, ◌≡◌, inr, sym, subst}
use Rattle.std.specs.Prelude.{Option, Some, None, Result, Ok, Err, IfOk, IfSome}
use Rattle.stn_edge.specs.Files.{FileMap, file_of}
use Rattle.stn_model.specs.declared.plant.Plant.{Plant}
use Rattle.stn_model.specs.Sound.{Sound}
use Rattle.row_kit.specs.declared.domain.Domain.{Domain}
use Rattle.row_kit.specs.declared.program.Program.{Program}
use Rattle.row_set.specs.Parts.{IsPartOf}
use Rattle.row_relax.specs.declared.rows.Rows.{Rows}
use Rattle.row_relax.specs.Choices.{plain}
use Rattle.sum_slots.specs.Shown.{AreRanges}
use Rattle.proof_log.specs.Behind.{behind}
use Rattle.sum_lines.specs.declared.head.Front.TheVariants.{Plain}
use Rattle.sum_lines.specs.Front.{IsFront}
use Rattle.setup_lines.specs.declared.setups.Setups.{Setups}
use Rattle.derivation_lines.specs.declared.tail.Tail.{Tail}
use Rattle.derivation_lines.specs.declared.tail.TailFront.TheVariants.{Whole}
use Rattle.valid_log.specs.declared.verdict.LogVerdict.{LogVerdict}
use Rattle.valid_log.specs.Claims.{YesSaysOf}
use Rattle.valid_log.specs.Verdict.{IsVerdict, YesHolds}
use Rattle.valid_log.specs.Heads.{IsWithHead, limits_with}
use Rattle.valid_log.specs.AnyVersion.{IsAnyVerdict, IsTailVerdict, given_verdict}
use Rattle.valid_log.proofs.PartSaying.{head_yes}
use Rattle.plant_check.specs.Heads.{IsHeadHeld}
use Rattle.plant_check.proofs.HeadJudged.{declared_over}

-- the answer behind a head that is shown is the answer on the file, where the files are told
pub shown_verdict : {E : Type 0} (plant : Plant) (program : Program) (judged : List Domain) (depth : ℕ) (setups : Setups) (tail : Tail) (rows : Rows) (files : Option FileMap) (name : List ℕ) (own : LogVerdict) (slots : ℕ) (r : Result LogVerdict E)
    → slots ≡ length program.root → IsWithHead plant setups.head.version program judged setups.head.sums setups.units tail.derivations rows → IfSome files (λ m. IsVerdict rows depth (behind setups.head.version tail.bytes (file_of m name)) own)
    → IfOk r (λ verdict. verdict ≡ given_verdict slots tail.count own) → IfOk r (λ verdict. IfSome files (λ m. IsTailVerdict plant program judged depth (file_of m name) setups (Whole tail) verdict))
shown_verdict plant program judged depth setups tail rows None name own slots (Ok verdict) all enlarged right is = tt
shown_verdict plant program judged depth setups tail rows (Some m) name own slots (Ok verdict) all enlarged right is =
    inr (record { rows = rows; enlarged = enlarged; own = own; right = right; is = subst (λ (n : ℕ). verdict ≡ given_verdict n tail.count own) all is })
shown_verdict plant program judged depth setups tail rows files name own slots (Err e) all enlarged right is = tt

-- what its claim says holds of all plans that the part admits
pub shown_says : {E : Type 0} (plant : Plant) (program : Program) (judged : List Domain) (depth : ℕ) (setups : Setups) (tail : Tail) (rows : Rows) (own : LogVerdict) (slots : ℕ) (r : Result LogVerdict E) → slots ≡ length program.root → Sound plant → IsPartOf plant program
    → AreRanges program judged → IsHeadHeld plant program depth setups → IsWithHead plant setups.head.version program judged setups.head.sums setups.units tail.derivations rows → YesHolds rows own
    → IfOk r (λ verdict. verdict ≡ given_verdict slots tail.count own) → IfOk r (YesSaysOf plant program)
shown_says plant program judged depth setups tail rows own slots (Ok verdict) all sound part ranges held enlarged holds is =
    subst (YesSaysOf plant program) (sym (subst (λ (n : ℕ). verdict ≡ given_verdict n tail.count own) all is))
    (head_yes plant setups.head.version program judged setups.head.sums setups.units tail.derivations rows tail.count own sound part ranges (declared_over plant program depth setups held) held.units.ascending enlarged holds)
shown_says plant program judged depth setups tail rows own slots (Err e) all sound part ranges held enlarged holds is = tt

-- the answer on a log without a head is that on a log of any version
pub any_plain : {E : Type 0} (plant : Plant) (program : Program) (ranges root : List Domain) (depth : ℕ) (files : Option FileMap) (name : List ℕ) (r : Result LogVerdict E) → IfSome files (λ m. IsFront (limits_with program depth 0) (file_of m name) Plain)
    → IfOk r (λ verdict. IfSome files (λ m. IsVerdict (plain program) depth (file_of m name) verdict)) → IfOk r (λ verdict. IfSome files (λ m. IsAnyVerdict plant program ranges root depth (file_of m name) verdict))
any_plain plant program ranges root depth None name (Ok verdict) stands right = tt
any_plain plant program ranges root depth (Some m) name (Ok verdict) stands right = record { front = Plain; stands = stands; right = right }
any_plain plant program ranges root depth files name (Err e) stands right = tt
