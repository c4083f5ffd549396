-- Proofs over rows: their items, and their trees.
use Rattle.row_kit.specs.declared.area.Area.{Area}
use Rattle.row_kit.specs.declared.found.Found.{Found}
use Rattle.range_prop.specs.declared.row_cut.RowCut.{RowCut}
use Rattle.dual_bound.specs.declared.cert.Cert.{Cert}
use Rattle.proof_tree.specs.declared.item.Item.{Item}
use Rattle.proof_tree.specs.Tree.{Tree}
use Rattle.row_relax.specs.declared.pick.RowPick.{RowPick}
use Rattle.row_relax.specs.declared.rows.Rows.{Rows}

-- an item of a proof over rows
abbrev pub RowItem : Type 0
RowItem = Item Rows Area RowCut Cert RowPick Found

-- a proof over rows, as a tree
abbrev pub RowTree : Type 0
RowTree = Tree RowCut Cert RowPick Found
