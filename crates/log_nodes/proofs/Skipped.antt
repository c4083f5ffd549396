-- A proof whose nodes were read one by one, for its count of boxes.
use Rattle.std.proofs.Common.{◌≡◌, List, Option, refl}
use Rattle.proof_tree.specs.Nodes.{counted}
use Rattle.range_prop.specs.declared.row_cut.RowCut.{RowCut}
use Rattle.row_kit.specs.declared.found.Found.{Found}
use Rattle.log_nodes.specs.declared.node.Ending.{Ending}
use Rattle.log_nodes.specs.declared.node.Ending.TheVariants.{Empty, Dual, Point, Pending, Split}
use Rattle.log_nodes.specs.laws.Nodes.{Below, counted_with, tree_with}

-- a tree counts as its end and what stands below it
pub counted-tree : (cuts : List RowCut) (found : Option Found) (end : Ending) (below : Below end) → counted (tree_with cuts found end below) ≡ counted_with end below
counted-tree cuts found Empty below = refl
counted-tree cuts found (Dual cert) below = refl
counted-tree cuts found Point below = refl
counted-tree cuts found (Pending cert) below = refl
counted-tree cuts found (Split pick cert) below = refl
