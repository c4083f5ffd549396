-- When a log of any version is valid, and which answer on it is right.
use Rattle.std.specs.Prelude.{◌≡◌, ◌⊎◌, ℕ, ◌+◌, ◌-◌, List, [], length, take, Option, None, Some}
use Rattle.stn_model.specs.declared.plant.Plant.{Plant}
use Rattle.row_kit.specs.declared.domain.Domain.{Domain}
use Rattle.row_kit.specs.declared.program.Program.{Program}
use Rattle.row_relax.specs.declared.rows.Rows.{Rows}
use Rattle.row_relax.specs.Choices.{plain}
use Rattle.row_relax.specs.RowProofs.{RowTree}
use Rattle.sum_slots.specs.declared.sum.Sum.{Sum}
use Rattle.derivations.specs.declared.derivation.Derivation.{Derivation}
use Rattle.log_lines.specs.declared.defect.Defect.{Defect}
use Rattle.log_lines.specs.TextDefect.{log_text_defect}
use Rattle.proof_log.specs.declared.claim.Claim.{Claim}
use Rattle.proof_log.specs.declared.claim.Claim.TheVariants.{Optimal, Infeasible, Between, Below}
use Rattle.proof_log.specs.Behind.{behind}
use Rattle.sum_lines.specs.declared.head.Head.{Head}
use Rattle.sum_lines.specs.declared.head.Front.{Front}
use Rattle.sum_lines.specs.declared.head.Front.TheVariants.{Plain, Headed, Bad}
use Rattle.sum_lines.specs.Front.{IsFront}
use Rattle.setup_lines.specs.declared.setups.Setups.{Setups}
use Rattle.setup_lines.specs.declared.setups.SetupFront.{SetupFront}
use Rattle.setup_lines.specs.declared.setups.SetupFront.TheVariants as setting
use Rattle.derivation_lines.specs.declared.tail.Tail.{Tail}
use Rattle.derivation_lines.specs.declared.tail.TailFront.{TailFront}
use Rattle.derivation_lines.specs.declared.tail.TailFront.TheVariants as tailed
use Rattle.derivation_lines.specs.declared.tail.TailFront.TheVariants.{Whole}
use Rattle.valid_log.specs.declared.verdict.LogVerdict.{LogVerdict}
use Rattle.valid_log.specs.declared.verdict.LogVerdict.TheVariants.{Yes, No}
use Rattle.valid_log.specs.Verdict.{IsLog, IsValidLog, IsVerdict}
use Rattle.valid_log.specs.Heads.{AreSetups, HasHeadDefect, IsTail, IsWithHead, judged_over, limits_behind, limits_with, setup_sizes}

-- a defect by its line in the file, where the log that it is of stands behind a head of so many lines and has the head's last for its first
abbrev pub in_file : ℕ → Defect → Defect
in_file count defect = record { line = defect.line + (count - 1); kind = defect.kind }

-- a claim with its point cut back to so many slots
abbrev pub given_claim : ℕ → Claim → Claim
given_claim slots (Optimal profit point) = Optimal profit (take slots point)
given_claim slots Infeasible = Infeasible
given_claim slots (Between profit most point) = Between profit most (take slots point)
given_claim slots (Below most) = Below most

-- the answer on a file, over a program of so many slots, whose head of so many lines stands before a log with this answer over the larger program
abbrev pub given_verdict : ℕ → ℕ → LogVerdict → LogVerdict
given_verdict slots count (Yes claim) = Yes (given_claim slots claim)
given_verdict slots count (No defect) = No (in_file count defect)

-- the defect of a file whose head has one in its meaning: the first text defect behind its head of so many lines, and where there is none that
abbrev pub unshown_defect : ℕ → ℕ → ℕ → Option (ℕ × ℕ) → Defect
unshown_defect count line kind None = record { line = line; kind = kind }
unshown_defect count line kind (Some at) = in_file count (record { line = at.0; kind = at.1 })

-- the answer on a file whose head has a defect in its meaning
pub record IsUnshownVerdict (plant : Plant) (program : Program) (judged : List Domain) (depth : ℕ) (bytes : List ℕ) (setups : Setups) (tail : Tail) (verdict : LogVerdict) : Type 0 where
  pub line : ℕ
  pub kind : ℕ
  pub has : HasHeadDefect plant program judged setups tail line kind
  pub is : verdict ≡ No (unshown_defect tail.count line kind (log_text_defect (limits_behind setups tail) (behind setups.head.version tail.bytes bytes)))

-- the answer on a file whose sums and derivations are all shown: that on the log behind its head, over the rows with them
pub record IsShownVerdict (plant : Plant) (program : Program) (judged : List Domain) (depth : ℕ) (bytes : List ℕ) (setups : Setups) (tail : Tail) (verdict : LogVerdict) : Type 0 where
  pub rows : Rows
  pub enlarged : IsWithHead plant setups.head.version program judged setups.head.sums setups.units tail.derivations rows
  pub own : LogVerdict
  pub right : IsVerdict rows depth (behind setups.head.version tail.bytes bytes) own
  pub is : verdict ≡ given_verdict (length program.root) tail.count own

-- the answer on a file with a head and its setups, behind which this stands
abbrev pub IsTailVerdict : Plant → Program → List Domain → ℕ → List ℕ → Setups → TailFront → LogVerdict → Type 0
IsTailVerdict plant program judged depth bytes setups (Whole tail) verdict =
    IsUnshownVerdict plant program judged depth bytes setups tail verdict ⊎ IsShownVerdict plant program judged depth bytes setups tail verdict
IsTailVerdict plant program judged depth bytes setups (tailed.Bad defect) verdict = verdict ≡ No defect

-- the answer on a file with a head and its setups
pub record IsSetUpVerdict (plant : Plant) (program : Program) (judged : List Domain) (depth : ℕ) (bytes : List ℕ) (setups : Setups) (verdict : LogVerdict) : Type 0 where
  pub tail : TailFront
  pub follows : IsTail setups.limits setups.head bytes tail
  pub right : IsTailVerdict plant program judged depth bytes setups tail verdict

-- the answer on a file with a head, behind whose sums this stands
abbrev pub IsSetupsVerdict : Plant → Program → List Domain → ℕ → List ℕ → SetupFront → LogVerdict → Type 0
IsSetupsVerdict plant program judged depth bytes (setting.Whole setups) verdict = IsSetUpVerdict plant program judged depth bytes setups verdict
IsSetupsVerdict plant program judged depth bytes (setting.Bad defect) verdict = verdict ≡ No defect

-- the answer on a file with a head
pub record IsHeadVerdict (plant : Plant) (program : Program) (judged : List Domain) (depth : ℕ) (bytes : List ℕ) (head : Head) (verdict : LogVerdict) : Type 0 where
  pub setups : SetupFront
  pub set_up : AreSetups (limits_with program depth (length head.sums)) (setup_sizes plant) head bytes setups
  pub right : IsSetupsVerdict plant program judged depth bytes setups verdict

-- the answer on a file with such a front
abbrev pub IsFrontVerdict : Plant → Program → List Domain → List Domain → ℕ → List ℕ → Front → LogVerdict → Type 0
IsFrontVerdict plant program ranges root depth bytes Plain verdict = IsVerdict (plain program) depth bytes verdict
IsFrontVerdict plant program ranges root depth bytes (Headed head) verdict = IsHeadVerdict plant program (judged_over ranges root head.version) depth bytes head verdict
IsFrontVerdict plant program ranges root depth bytes (Bad defect) verdict = verdict ≡ No defect

-- the answer on a log of any version over a program of a plant, whose sums in version 3 are to be shown by these domains, and whose head in version 4 is judged over this root
pub record IsAnyVerdict (plant : Plant) (program : Program) (ranges root : List Domain) (depth : ℕ) (bytes : List ℕ) (verdict : LogVerdict) : Type 0 where
  pub front : Front
  pub stands : IsFront (limits_with program depth 0) bytes front
  pub right : IsFrontVerdict plant program ranges root depth bytes front verdict

-- the bytes behind a head with its setups and derivations are the text of a log, over the rows with them, of this proof and of a claim that is this one when cut back
pub record IsLogBehind (plant : Plant) (program : Program) (judged : List Domain) (bytes : List ℕ) (head : Head) (sums : List Sum) (units : List ℕ) (derivations : List Derivation) (tree : RowTree) (claim : Claim) : Type 0 where
  pub setups : Setups
  pub set_up : AreSetups (limits_with program 0 (length head.sums)) (setup_sizes plant) head bytes (setting.Whole setups)
  pub tail : Tail
  pub follows : IsTail setups.limits setups.head bytes (Whole tail)
  pub declares : sums ≡ head.sums
  pub sets_up : units ≡ setups.units
  pub derives : derivations ≡ tail.derivations
  pub rows : Rows
  pub enlarged : IsWithHead plant head.version program judged sums units derivations rows
  pub own : Claim
  pub is_log : IsLog rows (behind head.version tail.bytes bytes) tree own
  pub claim_is : claim ≡ given_claim (length program.root) own

-- bytes with such a front are the text of a log that declares these sums, setups and derivations, of this proof and this claim
abbrev pub IsLogWith : Plant → Program → List Domain → List Domain → List ℕ → Front → List Sum → List ℕ → List Derivation → RowTree → Claim → Type 0
IsLogWith plant program ranges root bytes Plain sums units derivations tree claim = (sums ≡ []) × (units ≡ []) × (derivations ≡ []) × IsLog (plain program) bytes tree claim
IsLogWith plant program ranges root bytes (Headed head) sums units derivations tree claim =
    IsLogBehind plant program (judged_over ranges root head.version) bytes head sums units derivations tree claim
IsLogWith plant program ranges root bytes (Bad defect) sums units derivations tree claim = ⊥

-- The bytes are the text of a log of any version, of this proof over the rows with the sums, setups and derivations that it declares, and
-- of this claim, whose point is cut back to the program's slots.
pub record IsAnyLog (plant : Plant) (program : Program) (ranges root : List Domain) (bytes : List ℕ) (sums : List Sum) (units : List ℕ) (derivations : List Derivation) (tree : RowTree) (claim : Claim) : Type 0 where
  pub front : Front
  pub stands : IsFront (limits_with program 0 0) bytes front
  pub is_log : IsLogWith plant program ranges root bytes front sums units derivations tree claim

-- the sums and derivations of a head are all shown, and what stands behind them is, over the rows with them, a valid log of a claim that is this one when cut back
pub record IsValidBehind (plant : Plant) (program : Program) (judged : List Domain) (depth : ℕ) (bytes : List ℕ) (head : Head) (claim : Claim) : Type 0 where
  pub setups : Setups
  pub set_up : AreSetups (limits_with program depth (length head.sums)) (setup_sizes plant) head bytes (setting.Whole setups)
  pub tail : Tail
  pub follows : IsTail setups.limits setups.head bytes (Whole tail)
  pub rows : Rows
  pub enlarged : IsWithHead plant head.version program judged head.sums setups.units tail.derivations rows
  pub own : Claim
  pub valid : IsValidLog rows depth (behind head.version tail.bytes bytes) own
  pub is : claim ≡ given_claim (length program.root) own

-- bytes with such a front are a valid log of a claim
abbrev pub IsValidWith : Plant → Program → List Domain → List Domain → ℕ → List ℕ → Front → Claim → Type 0
IsValidWith plant program ranges root depth bytes Plain claim = IsValidLog (plain program) depth bytes claim
IsValidWith plant program ranges root depth bytes (Headed head) claim = IsValidBehind plant program (judged_over ranges root head.version) depth bytes head claim
IsValidWith plant program ranges root depth bytes (Bad defect) claim = ⊥

-- bytes are a valid log of any version of a claim, whose sums in version 3 are shown by these domains, and whose head in version 4 over this root
pub record IsValidAnyLog (plant : Plant) (program : Program) (ranges root : List Domain) (depth : ℕ) (bytes : List ℕ) (claim : Claim) : Type 0 where
  pub front : Front
  pub stands : IsFront (limits_with program depth 0) bytes front
  pub valid : IsValidWith plant program ranges root depth bytes front claim

-- logs of any version with these sums, setups, derivations, proofs and claims are one
pub record IsOneLog (sums other_sums : List Sum) (units other_units : List ℕ) (derivations other_derivations : List Derivation) (tree other_tree : RowTree) (claim other_claim : Claim) : Type 0 where
  pub sums_same : sums ≡ other_sums
  pub units_same : units ≡ other_units
  pub derivations_same : derivations ≡ other_derivations
  pub tree_same : tree ≡ other_tree
  pub claim_same : claim ≡ other_claim
