-- Stands in specs/ since clauses of private functions cite it; no public clause does.
use Rattle.std.specs.Prelude.{Bool}
use Rattle.proof_tree.specs.declared.capped.Capped.{Capped}
use Rattle.proof_tree.specs.Tree.{leaf, split, leaf_cap, split_cap}
use Rattle.proof_tree.specs.Views.{View}
use Rattle.row_relax.specs.declared.rows.Rows.{Rows}
use Rattle.row_relax.specs.Choices.{steps_of}
use Rattle.row_relax.specs.RowProofs.{RowTree}
use Rattle.what_if.specs.Loose.{loose_cap, within}

-- the own cap of a node's end over its view after its cuts: that of a leaf, or what its floor, its two parts' loose caps and its certificate give of a split
abbrev pub own_cap : Bool → Rows → View → RowTree → Capped
own_cap capped rows v (leaf cuts found end) = leaf_cap (steps_of rows) v end
own_cap capped rows v (split cuts found pick cert a b) =
    within capped rows.program v cert (split_cap (steps_of rows) v pick cert (λ x. loose_cap capped rows x a) (λ x. loose_cap capped rows x b))
