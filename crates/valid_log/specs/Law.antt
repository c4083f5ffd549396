-- That the right answer on a log is yes exactly where the log is valid.
use Rattle.std.specs.Prelude.{◌≡◌, ◌≤◌, ◌↔◌, ℕ, List}
use Rattle.stn_model.specs.declared.plant.Plant.{Plant}
use Rattle.row_kit.specs.declared.domain.Domain.{Domain}
use Rattle.row_kit.specs.declared.program.Program.{Program}
use Rattle.row_relax.specs.declared.rows.Rows.{Rows}
use Rattle.row_relax.specs.RowProofs.{RowTree}
use Rattle.sum_slots.specs.declared.sum.Sum.{Sum}
use Rattle.derivations.specs.declared.derivation.Derivation.{Derivation}
use Rattle.proof_log.specs.declared.claim.Claim.{Claim}
use Rattle.valid_log.specs.declared.verdict.LogVerdict.{LogVerdict}
use Rattle.valid_log.specs.declared.verdict.LogVerdict.TheVariants.{Yes}
use Rattle.valid_log.specs.Verdict.{IsValidLog, IsVerdict}
use Rattle.valid_log.specs.Heads.{IsWithHead}
use Rattle.valid_log.specs.AnyVersion.{IsAnyLog, IsAnyVerdict, IsOneLog, IsValidAnyLog}

-- a right answer is yes with a claim exactly where the bytes are a valid log of it
abbrev pub VerdictsAreExact : Type 0
VerdictsAreExact = (rows : Rows) (depth : ℕ) (bytes : List ℕ) (verdict : LogVerdict) (claim : Claim) → IsVerdict rows depth bytes verdict → (verdict ≡ Yes claim) ↔ IsValidLog rows depth bytes claim

-- a right answer is yes with a claim exactly where the bytes are a valid log of it, of any version
abbrev pub AnyVerdictsAreExact : Type 0
AnyVerdictsAreExact =
    (plant : Plant) (program : Program) (ranges root : List Domain) (depth : ℕ) (bytes : List ℕ) (verdict : LogVerdict) (claim : Claim) → IsAnyVerdict plant program ranges root depth bytes verdict
    → (verdict ≡ Yes claim) ↔ IsValidAnyLog plant program ranges root depth bytes claim

-- what is a valid log over some rows with the sums, setups and derivations of a head is one over each others with them, whichever lanes the new slots have
abbrev pub LanesAreAlike : Type 0
LanesAreAlike =
    (plant : Plant) (version : ℕ) (program : Program) (judged : List Domain) (sums : List Sum) (units : List ℕ) (derivations : List Derivation) (rows other : Rows) (depth : ℕ) (bytes : List ℕ) (claim : Claim)
    → IsWithHead plant version program judged sums units derivations rows → IsWithHead plant version program judged sums units derivations other → IsValidLog rows depth bytes claim → IsValidLog other depth bytes claim

-- where a right answer is yes, each right answer on the same bytes is this yes, also where more splits may be open
abbrev pub YesStays : Type 0
YesStays =
    (plant : Plant) (program : Program) (ranges root : List Domain) (depth more : ℕ) (bytes : List ℕ) (claim : Claim) (verdict : LogVerdict) → depth ≤ more → IsAnyVerdict plant program ranges root depth bytes (Yes claim)
    → IsAnyVerdict plant program ranges root more bytes verdict → verdict ≡ Yes claim

-- bytes are the text of one log alone, of any version: the same text has the same sums, setups and derivations, the same proof and the same claim
abbrev pub AnyLogsHaveOneText : Type 0
AnyLogsHaveOneText =
    (plant : Plant) (program : Program) (ranges root : List Domain) (bytes : List ℕ) (sums other_sums : List Sum) (units other_units : List ℕ) (derivations other_derivations : List Derivation) (tree other_tree : RowTree) (claim other_claim : Claim)
    → IsAnyLog plant program ranges root bytes sums units derivations tree claim → IsAnyLog plant program ranges root bytes other_sums other_units other_derivations other_tree other_claim
    → IsOneLog sums other_sums units other_units derivations other_derivations tree other_tree claim other_claim
