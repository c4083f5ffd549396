-- That a text without a defect is the text of a log.
use Rattle.std.specs.Prelude.{◌≡◌, ◌^◌, ◌<◌, List, ℕ, None, IsSomeAnd}
use Rattle.proof_tree.specs.Items.{tree_items}
use Rattle.log_lines.specs.declared.grammar.Limits.{Limits}
use Rattle.log_lines.specs.declared.grammar.Place.TheVariants.{Done}
use Rattle.log_lines.specs.Grammar.{new_standing}
use Rattle.log_lines.specs.TextDefect.{log_text_defect}
use Rattle.proof_log.specs.declared.claim.Claim.{Claim}
use Rattle.proof_log.specs.Accepted.{leads}
use Rattle.row_relax.specs.RowProofs.{RowTree}
use Rattle.proof_log.specs.Log.{log_lines, log_text}
use Rattle.proof_log.specs.OneText.{IsLogOver}

-- the bytes are the text of a log: its points have as many values as the limits say, its lines may be written, and the grammar takes them under
-- these limits, one after another, to the last
pub record IsTextOfLog (limits : Limits) (bytes : List ℕ) : Type 0 where
  pub version : ℕ
  pub tree : RowTree
  pub claim : Claim
  pub text : bytes ≡ log_text version (tree_items tree) claim
  pub over : IsLogOver limits.points version tree claim
  pub accepted : IsSomeAnd (leads limits new_standing (log_lines version (tree_items tree) claim)) (λ last. last.place ≡ Done)

-- bytes without a text defect are the text of a log
abbrev pub CleanTextsAreLogs : Type 0
CleanTextsAreLogs =
    (limits : Limits) (bytes : List ℕ) → limits.rows < 2 ^ 32 → limits.slots < 2 ^ 32 → log_text_defect limits bytes ≡ None → IsTextOfLog limits bytes
