-- Stands in specs/ since clauses of private functions cite it; no public clause does.
use Rattle.std.specs.Prelude.{◌≡◌, ◌≤◌, ◌==◌, ℕ, false, List, [], length, None}
use Rattle.stn_model.specs.Points.{depth_limit}
use Rattle.stn_model.specs.declared.plant.Plant.{Plant}
use Rattle.stn_model.specs.Sound.{Sound}
use Rattle.row_kit.specs.declared.domain.Domain.{Domain}
use Rattle.row_kit.specs.declared.program.Program.{Program}
use Rattle.row_set.specs.Parts.{IsPartOf}
use Rattle.sum_slots.specs.Shown.{AreRanges}
use Rattle.proof_tree.specs.Tree.{tree_of}
use Rattle.row_relax.specs.declared.rows.Rows.{Rows}
use Rattle.row_relax.specs.RowProofs.{RowTree}
use Rattle.proof_log.specs.declared.claim.Claim.{Claim}
use Rattle.proof_log.specs.Behind.{behind}
use Rattle.log_lines.specs.declared.defect.Defect.{Defect}
use Rattle.proof_log.specs.declared.read.LogStop.{LogStop}
use Rattle.proof_log.specs.declared.read.LogStop.TheVariants.{Defect as StopDefect}
use Rattle.log_lines.specs.TextDefect.{log_text_defect}
use Rattle.valid_log.specs.declared.verdict.LogVerdict.TheVariants.{Yes}
use Rattle.valid_log.specs.Verdict.{IsBorneOut, IsLog, IsSoundLog, limits_of}
use Rattle.valid_log.specs.Heads.{IsTail, IsWithHead}
use Rattle.valid_log.specs.AnyVersion.{IsAnyLog, IsAnyVerdict, given_claim, in_file}
use Rattle.setup_lines.specs.declared.setups.Setups.{Setups}
use Rattle.derivation_lines.specs.declared.tail.Tail.{Tail}
use Rattle.derivation_lines.specs.declared.tail.TailFront.TheVariants.{Whole}
use Rattle.plant_check.specs.Heads.{IsHeadHeld}
use Rattle.what_if.specs.declared.old.LogHead.{LogHead}
use Rattle.what_if.specs.declared.old.ValidLog.{ValidLog}
use Rattle.what_if.specs.Estimate.{AreTaken}
use Rattle.what_if.specs.Head.{HasCaps}
use Rattle.what_if.specs.OldLogs.{IsSoundOver}

-- the bytes are the text of a log over rows, of this proof and this claim, without a defect of its text, where so many splits may be open, or
-- its meaning; the claim is borne out
pub record IsOwnLog (rows : Rows) (depth : ℕ) (bytes : List ℕ) (tree : RowTree) (claim : Claim) : Type 0 where
  pub clean : log_text_defect (limits_of rows depth) bytes ≡ None
  pub is_log : IsLog rows bytes tree claim
  pub sound_log : IsSoundLog rows tree claim
  pub borne : IsBorneOut rows claim

-- the answer on a log of any version over a plant's program is yes: it has this head, and its proof is without a defect over the rows with it
pub record IsAnyOwnLog (plant : Plant) (program : Program) (ranges : List Domain) (bytes : List ℕ) (log : ValidLog) : Type 0 where
  pub right : IsAnyVerdict plant program ranges ranges (depth_limit plant) bytes (Yes log.claim)
  pub is_log : IsAnyLog plant program ranges ranges bytes log.head.sums log.head.units log.head.derivations (tree_of log.tree) log.claim
  pub has_caps : HasCaps is_log.front log.head.capped
  pub sound_log : IsSoundOver plant program ranges log.head (tree_of log.tree) log.claim
  pub taken : AreTaken plant program ranges log.head
  pub borne : IsBorneOut sound_log.rows sound_log.own

-- a stop behind a head of so many lines, by the lines of the file
abbrev pub IsStopInFile : ℕ → LogStop → LogStop → Type 0
IsStopInFile count own stop = (defect : Defect) → stop ≡ StopDefect defect → (before : Defect) × ((own ≡ StopDefect before) × (defect ≡ in_file count before))

-- a head with these setups stands in front of the bytes, over a part of a sound plant's choices and domains in which its points lie
pub record IsInFront (plant : Plant) (program : Program) (domains : List Domain) (setups : Setups) (bytes : List ℕ) : Type 0 where
  pub sound : Sound plant
  pub part : IsPartOf plant program
  pub ranges : AreRanges program domains
  pub held : IsHeadHeld plant program (depth_limit plant) setups
  pub some : 1 ≤ setups.head.bytes
  pub within : setups.head.bytes ≤ length bytes

-- a log has no head
pub record IsNoHead (head : LogHead) : Type 0 where
  pub capped : head.capped ≡ false
  pub sums : head.sums ≡ []
  pub units : head.units ≡ []
  pub derivations : head.derivations ≡ []

-- the head of a log is this, with these derivations behind its setups
pub record IsHeadOf (setups : Setups) (tail : Tail) (given : LogHead) : Type 0 where
  pub capped : given.capped ≡ (setups.head.version == 4)
  pub sums : given.sums ≡ setups.head.sums
  pub units : given.units ≡ setups.units
  pub derivations : given.derivations ≡ tail.derivations

-- What stands behind a head, its setups and its derivations is a log over the rows with them, of this proof, which has this head, and of a
-- claim that is this one when cut back.
pub record IsTailedLog (plant : Plant) (program : Program) (ranges : List Domain) (bytes : List ℕ) (setups : Setups) (tail : Tail) (log : ValidLog) : Type 0 where
  pub rows : Rows
  pub enlarged : IsWithHead plant setups.head.version program ranges setups.head.sums setups.units tail.derivations rows
  pub own : Claim
  pub valid : IsOwnLog rows (depth_limit plant) (behind setups.head.version tail.bytes bytes) (tree_of log.tree) own
  pub has_head : IsHeadOf setups tail log.head
  pub claim_is : log.claim ≡ given_claim (length program.root) own
  pub taken : AreTaken plant program ranges log.head

-- the same of what stands behind a head and its setups
pub record IsSetUpLog (plant : Plant) (program : Program) (ranges : List Domain) (bytes : List ℕ) (setups : Setups) (log : ValidLog) : Type 0 where
  pub tail : Tail
  pub follows : IsTail setups.limits setups.head bytes (Whole tail)
  pub is_log : IsTailedLog plant program ranges bytes setups tail log
