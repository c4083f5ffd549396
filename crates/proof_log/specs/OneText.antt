-- That a text is the text of one log.
use Rattle.std.specs.Prelude.{◌≡◌, ℕ, ⊤, List, [], ◌++◌, length}
use Rattle.std.specs.List.{All}
use Rattle.proof_tree.specs.declared.item.Item.TheVariants.{Node, Cut, Found, Empty, Dual, Point, Pending, Split}
use Rattle.proof_tree.specs.Items.{tree_items}
use Rattle.log_lines.specs.Line.{IsLine}
use Rattle.proof_log.specs.declared.claim.Claim.{Claim}
use Rattle.proof_log.specs.declared.claim.Claim.TheVariants.{Optimal, Infeasible, Between, Below}
use Rattle.row_relax.specs.RowProofs.{RowItem, RowTree}
use Rattle.proof_log.specs.Log.{log_lines, log_text}

-- the point of an item has a value for each of this many slots
abbrev pub IsOver : ℕ → RowItem → Type 0
IsOver slots Node = ⊤
IsOver slots (Cut cut) = ⊤
IsOver slots (Found found) = length found.point ≡ slots
IsOver slots Empty = ⊤
IsOver slots (Dual cert) = ⊤
IsOver slots Point = ⊤
IsOver slots (Pending cert) = ⊤
IsOver slots (Split pick cert) = ⊤

-- the point of a claim has a value for each of this many slots
abbrev pub IsClaimOver : ℕ → Claim → Type 0
IsClaimOver slots (Optimal profit point) = length point ≡ slots
IsClaimOver slots Infeasible = ⊤
IsClaimOver slots (Between profit cap point) = length point ≡ slots
IsClaimOver slots (Below cap) = ⊤

-- a log over this many slots: its points have a value for each, and its lines may be written
pub record IsLogOver (slots version : ℕ) (tree : RowTree) (claim : Claim) : Type 0 where
  pub items : All (IsOver slots) (tree_items tree)
  pub claim_over : IsClaimOver slots claim
  pub lines : All IsLine (log_lines version (tree_items tree) claim)

-- one log is another, and nothing follows its text
pub record SameLog (version other_version : ℕ) (tree other_tree : RowTree) (claim other_claim : Claim) (rest : List ℕ) : Type 0 where
  pub version_same : version ≡ other_version
  pub tree_same : tree ≡ other_tree
  pub claim_same : claim ≡ other_claim
  pub no_rest : rest ≡ []

-- two logs over one number of slots are the same where they have one text, and the text of none is a first part of that of another
abbrev pub LogsHaveOneText : Type 0
LogsHaveOneText =
    (slots version other_version : ℕ) (tree other_tree : RowTree) (claim other_claim : Claim) (rest : List ℕ) → IsLogOver slots version tree claim → IsLogOver slots other_version other_tree other_claim
    → log_text version (tree_items tree) claim ≡ log_text other_version (tree_items other_tree) other_claim ++ rest → SameLog version other_version tree other_tree claim other_claim rest
