-- The cap of a node that splits nothing.
use Rattle.std.proofs.Common.{◌≡◌, ◌∙◌, List, [], ◌∷◌, Option, Some, refl, sym, ap}
use Rattle.std.specs.Option.{option_and_then}
use Rattle.range_prop.specs.declared.row_cut.RowCut.{RowCut}
use Rattle.proof_tree.specs.declared.capped.Capped.{Capped}
use Rattle.proof_tree.specs.Tree.{after_cuts, cap_if, leaf, leaf_cap, tree_cap}
use Rattle.proof_tree.specs.Views.{View}
use Rattle.row_relax.specs.declared.rows.Rows.{Rows}
use Rattle.row_relax.specs.Choices.{steps_of}
use Rattle.row_relax.specs.Steps.{row_steps}
use Rattle.log_nodes.specs.declared.node.Node.{Node}
use Rattle.log_nodes.specs.laws.Nodes.{leaf_of}

-- cuts lead to the same view whatever views settle to
pub cuts-same : (rows : Rows) (view : View) (cuts : List RowCut) → after_cuts (steps_of rows) view cuts ≡ after_cuts (row_steps rows.program) view cuts
cuts-same rows view [] = refl
cuts-same rows view (cut ∷ cuts) = λ i. option_and_then (λ w. cuts-same rows w cuts i) ((row_steps rows.program).cut view cut)

-- the cap of the end after the cuts is that of the node
pub node-cap : (rows : Rows) (view after : View) (node : Node) (cap : Capped) → after_cuts (row_steps rows.program) view node.cuts ≡ Some after → cap ≡ leaf_cap (steps_of rows) after (leaf_of node.end)
    → cap ≡ tree_cap (steps_of rows) view (leaf node.cuts node.found (leaf_of node.end))
node-cap rows view after node cap moved is =
    is ∙ sym (ap (λ (o : Option View). cap_if o (λ w. leaf_cap (steps_of rows) w (leaf_of node.end))) (cuts-same rows view node.cuts ∙ moved))
