-- When a log goes on from another.
use Rattle.std.specs.Prelude.{ℕ, ℤ, List, Option}
use Rattle.row_relax.specs.declared.rows.Rows.{Rows}
use Rattle.row_relax.specs.RowProofs.{RowTree}
use Rattle.row_relax.specs.View.{view_of}
use Rattle.log_growth.specs.declared.counts.Growth.{Growth}
use Rattle.log_nodes.specs.declared.pair.Share.{Share}
use Rattle.log_nodes.specs.declared.front.Front.{Front}
use Rattle.log_growth.specs.Growth.{IsGrowth}
use Rattle.log_nodes.specs.Texts.{IsTextBehind}

-- the bytes are, behind their heads, the texts of two logs, and the proof of the second goes on from that of the first, where at most so
-- many splits may stand one below another
pub record AreGrown (most : ℕ) (rows : Rows) (profit : Option ℤ) (share : Option Share) (log out : Front) (bytes bytes_out : List ℕ) (growth : Growth) : Type 0 where
  pub tree : RowTree
  pub grown : RowTree
  pub text : IsTextBehind log bytes tree
  pub text_out : IsTextBehind out bytes_out grown
  pub is : IsGrowth most rows profit share 0 0 (view_of rows.program.root) tree grown growth
