-- When a log is valid over rows, and which answer on a log is right.
use Rattle.std.specs.Prelude.{◌≡◌, ◌≢◌, ⊤, ℕ, List, length, Option, Some, None}
use Rattle.proof_tree.specs.declared.capped.Capped.{Capped}
use Rattle.proof_tree.specs.declared.capped.Capped.TheVariants.{Bad}
use Rattle.proof_tree.specs.Items.{tree_items}
use Rattle.proof_tree.specs.Tree.{tree_cap}
use Rattle.row_relax.specs.declared.rows.Rows.{Rows}
use Rattle.row_relax.specs.Choices.{choices_of, steps_of}
use Rattle.row_relax.specs.View.{view_of}
use Rattle.row_relax.specs.RowProofs.{RowTree}
use Rattle.proof_log.specs.declared.claim.Claim.{Claim}
use Rattle.proof_log.specs.Log.{log_text}
use Rattle.proof_log.specs.OneText.{IsLogOver}
use Rattle.log_lines.specs.declared.defect.Defect.{Defect}
use Rattle.log_lines.specs.declared.grammar.Limits.{Limits}
use Rattle.log_lines.specs.TextDefect.{log_text_defect}
use Rattle.valid_log.specs.declared.verdict.LogVerdict.{LogVerdict}
use Rattle.valid_log.specs.declared.verdict.LogVerdict.TheVariants.{Yes, No}
use Rattle.valid_log.specs.Meaning.{ClaimDefect, IsMeaningDefect, IsProved, IsSoundClaim}

-- the bytes are the text of the log of a proof and a claim, whose points have the slots of the choices
pub record IsLog (rows : Rows) (bytes : List ℕ) (tree : RowTree) (claim : Claim) : Type 0 where
  pub version : ℕ
  pub text : bytes ≡ log_text version (tree_items tree) claim
  pub over : IsLogOver (length (choices_of rows).root) version tree claim

-- a proof has no defect and gives a cap, under which the claim has none
pub record IsSoundLog (rows : Rows) (tree : RowTree) (claim : Claim) : Type 0 where
  pub proof_cap : Capped
  pub proved : IsProved (steps_of rows) (choices_of rows) (view_of rows.program.root) (tree_items tree) proof_cap
  pub sound : (kind : ℕ) → ¬ ClaimDefect (choices_of rows) proof_cap claim kind

-- the bytes are the text of a log of this claim without a meaning defect
pub record IsValid (rows : Rows) (bytes : List ℕ) (claim : Claim) : Type 0 where
  pub tree : RowTree
  pub is_log : IsLog rows bytes tree claim
  pub sound_log : IsSoundLog rows tree claim

-- the first meaning defect of a proof and its claim, over rows
abbrev pub IsRowsDefect : Rows → RowTree → Claim → Defect → Type 0
IsRowsDefect rows tree claim defect = IsMeaningDefect (steps_of rows) (choices_of rows) (view_of rows.program.root) (tree_items tree) claim defect

-- the bytes are the text of a log with this first meaning defect
pub record HasMeaningDefect (rows : Rows) (bytes : List ℕ) (defect : Defect) : Type 0 where
  pub tree : RowTree
  pub claim : Claim
  pub is_log : IsLog rows bytes tree claim
  pub meaning : IsRowsDefect rows tree claim defect

-- the answer for bytes without a text defect
abbrev pub IsMeaningVerdict : Rows → List ℕ → LogVerdict → Type 0
IsMeaningVerdict rows bytes (Yes claim) = IsValid rows bytes claim
IsMeaningVerdict rows bytes (No defect) = HasMeaningDefect rows bytes defect

-- the answer names this line and this kind
abbrev pub IsNoAt : LogVerdict → ℕ × ℕ → Type 0
IsNoAt (Yes claim) at = ⊥
IsNoAt (No defect) at = (defect.line ≡ at.0) × (defect.kind ≡ at.1)

-- the answer for bytes with this text defect, or with none
abbrev pub IsVerdictGiven : Rows → List ℕ → Option (ℕ × ℕ) → LogVerdict → Type 0
IsVerdictGiven rows bytes (Some at) verdict = IsNoAt verdict at
IsVerdictGiven rows bytes None verdict = IsMeaningVerdict rows bytes verdict

-- the limits of logs over rows: points have the slots of the choices
abbrev pub limits_of : Rows → ℕ → Limits
limits_of rows depth = record { rows = length rows.program.rows; slots = length rows.program.root; points = length (choices_of rows).root; depth = depth }

-- the answer for bytes: the first text defect, and where there is none the first meaning defect, and where there is none the claim
abbrev pub IsVerdict : Rows → ℕ → List ℕ → LogVerdict → Type 0
IsVerdict rows depth bytes verdict = IsVerdictGiven rows bytes (log_text_defect (limits_of rows depth) bytes) verdict

-- where the answer is yes, this is so of its claim
abbrev pub IfYes : (Claim → Type 0) → LogVerdict → Type 0
IfYes says (Yes claim) = says claim
IfYes says (No defect) = ⊤

-- A claim is borne out over rows: some proof over them has a cap that bears it out, where its point is judged by the choices. What it
-- says of plans is another matter: of points that stand for none nothing is said.
pub record IsBorneOut (rows : Rows) (claim : Claim) : Type 0 where
  pub tree : RowTree
  pub defined : tree_cap (steps_of rows) (view_of rows.program.root) tree ≢ Bad
  pub borne : IsSoundClaim (choices_of rows) (tree_cap (steps_of rows) (view_of rows.program.root) tree) claim

-- where the answer is yes, the claim is borne out
abbrev pub YesHolds : Rows → LogVerdict → Type 0
YesHolds rows verdict = IfYes (IsBorneOut rows) verdict

-- the answer for this very proof and claim: yes to the claim where neither has a meaning defect, or their first
abbrev pub IsVerdictOn : Rows → RowTree → Claim → LogVerdict → Type 0
IsVerdictOn rows tree claim (Yes own) = (own ≡ claim) × IsSoundLog rows tree claim
IsVerdictOn rows tree claim (No defect) = IsRowsDefect rows tree claim defect

-- bytes are a valid log of a claim: they have no text defect, and are the text of a log of the claim without a meaning defect
pub record IsValidLog (rows : Rows) (depth : ℕ) (bytes : List ℕ) (claim : Claim) : Type 0 where
  pub clean : log_text_defect (limits_of rows depth) bytes ≡ None
  pub valid : IsValid rows bytes claim
