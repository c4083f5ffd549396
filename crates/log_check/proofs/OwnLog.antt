-- The answer on the text of a log is that on this very log.
use Rattle.std.proofs.Common.{◌≡◌, ℕ, [], length, None, sym, ◌∙◌, subst, append-nil, Result, Ok, Err, IfOk}
use Rattle.proof_tree.specs.Items.{tree_items}
use Rattle.row_relax.specs.declared.rows.Rows.{Rows}
use Rattle.row_relax.specs.Choices.{choices_of, steps_of}
use Rattle.row_relax.specs.View.{view_of}
use Rattle.proof_log.specs.declared.claim.Claim.{Claim}
use Rattle.row_relax.specs.RowProofs.{RowTree}
use Rattle.proof_log.specs.Log.{log_text}
use Rattle.proof_log.specs.OneText.{IsLogOver, SameLog}
use Rattle.proof_log.proofs.OneText.{logs_same}
use Rattle.log_lines.specs.TextDefect.{log_text_defect}
use Rattle.valid_log.specs.declared.verdict.LogVerdict.{LogVerdict}
use Rattle.valid_log.specs.declared.verdict.LogVerdict.TheVariants.{Yes, No}
use Rattle.valid_log.specs.Meaning.{IsMeaningDefect}
use Rattle.valid_log.specs.Verdict.{IsLog, IsMeaningVerdict, IsVerdictOn, IsSoundLog, IsVerdictGiven, IsVerdict, limits_of}

module _ (rows : Rows) (version : ℕ) (tree : RowTree) (claim : Claim) (over : IsLogOver (length (choices_of rows).root) version tree claim) where
  -- a log with the text of this one is this one
  same_log : (other_tree : RowTree) (other : Claim) → (is_log : IsLog rows (log_text version (tree_items tree) claim) other_tree other) → SameLog version is_log.version tree other_tree claim other []
  same_log other_tree other is_log =
      logs_same (length (choices_of rows).root) version is_log.version tree other_tree claim other [] over is_log.over
      (is_log.text ∙ sym (append-nil (log_text is_log.version (tree_items other_tree) other)))

  own_meant : (verdict : LogVerdict) → IsMeaningVerdict rows (log_text version (tree_items tree) claim) verdict → IsVerdictOn rows tree claim verdict
  own_meant (Yes own) is =
      let same = same_log is.tree own is.is_log in
      (sym same.claim_same, subst (λ t. IsSoundLog rows t claim) (sym same.tree_same) (subst (IsSoundLog rows is.tree) (sym same.claim_same) is.sound_log))
  own_meant (No defect) is =
      let same = same_log is.tree is.claim is.is_log in
      let meaning = subst (λ c. IsMeaningDefect (steps_of rows) (choices_of rows) (view_of rows.program.root) (tree_items is.tree) c defect) (sym same.claim_same) is.meaning in
      subst (λ t. IsMeaningDefect (steps_of rows) (choices_of rows) (view_of rows.program.root) (tree_items t) claim defect) (sym same.tree_same) meaning

  -- the answer on the text of a log without a text defect is that on the log
  pub log_meant : {E : Type 0} (depth : ℕ) (r : Result LogVerdict E) → log_text_defect (limits_of rows depth) (log_text version (tree_items tree) claim) ≡ None
      → IfOk r (IsVerdict rows depth (log_text version (tree_items tree) claim)) → IfOk r (IsVerdictOn rows tree claim)
  log_meant depth (Ok verdict) none right = own_meant verdict (subst (λ o. IsVerdictGiven rows (log_text version (tree_items tree) claim) o verdict) none right)
  log_meant depth (Err e) none right = tt
