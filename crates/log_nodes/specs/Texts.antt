-- The text of the log of a proof.
use Rattle.std.specs.Prelude.{ℕ, List}
use Rattle.proof_tree.specs.Items.{tree_items}
use Rattle.row_relax.specs.RowProofs.{RowTree}
use Rattle.proof_log.specs.declared.claim.Claim.{Claim}
use Rattle.proof_log.specs.Behind.{behind}
use Rattle.proof_log.specs.LogReading.{IsClean}
use Rattle.log_nodes.specs.declared.front.Front.{Front}

-- the bytes are, behind a head, the text of the log of a proof and of some claim, without a text defect
pub record IsTextBehind (front : Front) (bytes : List ℕ) (tree : RowTree) : Type 0 where
  pub version : ℕ
  pub claim : Claim
  pub clean : IsClean front.limits (behind front.version front.head bytes) version (tree_items tree) claim
