-- The text of a proof that may be written, with a claim that its cap bears out, is a valid log.
use Rattle.std.proofs.Common.{◌≡◌, ◌≢◌, ◌^◌, ℕ, Bool, refl, sym, subst}
use Rattle.row_relax.specs.declared.rows.Rows.{Rows}
use Rattle.dual_bound.specs.Cap.{IsSmallCap}
use Rattle.proof_tree.specs.declared.capped.Capped.{Capped}
use Rattle.proof_tree.specs.declared.capped.Capped.TheVariants.{Bad}
use Rattle.proof_tree.specs.Items.{tree_items}
use Rattle.proof_tree.specs.Tree.{tree_cap}
use Rattle.row_relax.specs.RowProofs.{RowTree}
use Rattle.row_relax.specs.Choices.{choices_of, steps_of}
use Rattle.row_relax.specs.View.{view_of}
use Rattle.branch_tree.specs.Searched.{IsWritable}
use Rattle.proof_log.specs.declared.claim.Claim.{Claim}
use Rattle.proof_log.specs.Log.{log_text}
use Rattle.valid_log.specs.declared.verdict.LogVerdict.TheVariants.{Yes}
use Rattle.valid_log.specs.Meaning.{IsSoundClaim}
use Rattle.valid_log.specs.Verdict.{IsVerdict, IsVerdictGiven}
use Rattle.valid_log.proofs.FoundSound.{claim_sound}
use Rattle.plan_told.specs.Proofs.{depth_over}
use Rattle.plan_told.proofs.CapShort.{root_short}
use Rattle.plan_told.proofs.CleanText.{log_over, text_clean}
pub use Rattle.plan_told.proofs.CleanText.{text_version}
use Rattle.plan_told.proofs.NoDefect.{tree-proved}
pub use Rattle.plan_told.proofs.SmallClaim.{IsSmallClaim}

module _ (most : ℕ) (rows : Rows) (floors : Bool) (tree : RowTree) (cap : Capped) (writable : IsWritable most rows floors tree) (is : cap ≡ tree_cap (steps_of rows) (view_of rows.program.root) tree) where
  -- the cap of a proof that may be written, where it is a number, has at most 30 digits: at `AtMost n` this is `IsShort n`
  pub cap-short : IsSmallCap (10 ^ 30) cap
  cap-short = subst (IsSmallCap (10 ^ 30)) (sym is) (root_short rows floors tree writable.fit)

  -- a proof that may be written, with a claim that its cap bears out, is a valid log
  pub valid-tree : (claim : Claim) → cap ≢ Bad → IsSoundClaim (choices_of rows) cap claim → IsSmallClaim claim
      → IsVerdict rows (depth_over most rows.program.root) (log_text (text_version floors) (tree_items tree) claim) (Yes claim)
  valid-tree claim defined sound small =
      subst (λ defect. IsVerdictGiven rows (log_text (text_version floors) (tree_items tree) claim) defect (Yes claim)) (sym (text_clean most rows floors tree claim cap writable sound small))
      (record {
        tree = tree;
        is_log = record { version = text_version floors; text = refl; over = log_over most rows floors tree claim cap writable sound small };
        sound_log = record { proof_cap = cap; proved = tree-proved most rows floors tree cap writable is defined; sound = claim_sound (choices_of rows) cap claim sound };
      })
