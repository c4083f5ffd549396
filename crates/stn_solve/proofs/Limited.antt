-- Searches whose number of splits has another name.
use Rattle.std.proofs.Common.{◌≡◌, ℕ, Bool, List, Option, subst}
use Rattle.stn_edge.specs.Files.{FileMap}
use Rattle.row_relax.specs.declared.rows.Rows.{Rows}
use Rattle.row_relax.specs.RowProofs.{RowTree}
use Rattle.branch_tree.specs.declared.ended.Ended.{Ended}
use Rattle.proof_log.specs.Writer.{Writing}
use Rattle.plan_told.specs.Ended.{IsEnding}
use Rattle.logged_search.specs.Logging.{IsLogged, LeavesBegun}

-- what a search ended with
pub ending-at : (most limit : ℕ) (rows : Rows) (floors : Bool) (given budget : ℕ) (ended : Ended) (tree : RowTree) → most ≡ limit → IsEnding most rows floors given budget ended tree → IsEnding limit rows floors given budget ended tree
ending-at most limit rows floors given budget ended tree same of = subst (λ (n : ℕ). IsEnding n rows floors given budget ended tree) same of

-- its log
pub logged-at : (most limit : ℕ) (rows : Rows) (floors : Bool) (given budget : ℕ) (ended : Ended) (head name : List ℕ) (at : Writing) → most ≡ limit → IsLogged (IsEnding most rows floors given budget ended) most rows floors head name at → IsLogged (IsEnding limit rows floors given budget ended) limit rows floors head name at
logged-at most limit rows floors given budget ended head name at same logged = subst (λ (n : ℕ). IsLogged (IsEnding n rows floors given budget ended) n rows floors head name at) same logged

-- and what an attempt leaves that did not end
pub left-at : (most limit : ℕ) (rows : Rows) (floors : Bool) (head name : List ℕ) (old new : Option FileMap) → most ≡ limit → LeavesBegun most rows floors head name old new → LeavesBegun limit rows floors head name old new
left-at most limit rows floors head name old new same left = subst (λ (n : ℕ). LeavesBegun n rows floors head name old new) same left
