-- What is told of a search is right.
use Rattle.proof_tree.specs.Tree.{tree_of}
use Rattle.row_relax.proofs.Choosing.{plain-images}
use Rattle.branch_tree.specs.Searched.{ended_of}
use Rattle.stn_solve.proofs.SearchTold.{as-plain, plain-places, plain-right}
use Rattle.stn_solve.proofs.Searchable.{part-searchable}
use Rattle.stn_solve.proofs.plain.solve_rows.Goals as goal

pub search_built-requires-clause-searchable : goal.search_built-requires-clause-searchable
search_built-requires-clause-searchable g c = record { images = plain-images c.args.rows.now c.requires.plain; program = part-searchable c.args.plant.now c.args.rows.now.program c.depth_limit.result c.depth_limit.ensures c.requires.sound c.requires.part }

pub told_of-requires-clause-places : goal.told_of-requires-clause-places
told_of-requires-clause-places g c =
    plain-places c.args.plant.now c.args.rows.now.program c.depth_limit.result c.slot_count.result c.args.budget (tree_of c.in_ok-tree.field-0.tree) (ended_of c.in_ok-tree.field-0) c.requires.sound c.requires.part c.depth_limit.ensures c.slot_count.ensures
    (as-plain c.depth_limit.result c.args.rows.now c.slot_count.result c.args.budget (ended_of c.in_ok-tree.field-0) (tree_of c.in_ok-tree.field-0.tree) c.requires.plain c.in_ok-tree.ensures)

pub returns-clause-outcome : goal.returns-clause-outcome
returns-clause-outcome g c =
    (plain-right c.args.plant.now c.args.rows.now.program c.depth_limit.result c.slot_count.result c.args.budget (tree_of c.in_ok-tree.field-0.tree) (ended_of c.in_ok-tree.field-0) c.requires.sound c.requires.part c.depth_limit.ensures c.slot_count.ensures
    (as-plain c.depth_limit.result c.args.rows.now c.slot_count.result c.args.budget (ended_of c.in_ok-tree.field-0) (tree_of c.in_ok-tree.field-0.tree) c.requires.plain c.in_ok-tree.ensures)
    c.in_ok-outcome.field-0 c.in_ok-outcome.ensures).outcome

pub returns-clause-proof : goal.returns-clause-proof
returns-clause-proof g c =
    (plain-right c.args.plant.now c.args.rows.now.program c.depth_limit.result c.slot_count.result c.args.budget (tree_of c.in_ok-tree.field-0.tree) (ended_of c.in_ok-tree.field-0) c.requires.sound c.requires.part c.depth_limit.ensures c.slot_count.ensures
    (as-plain c.depth_limit.result c.args.rows.now c.slot_count.result c.args.budget (ended_of c.in_ok-tree.field-0) (tree_of c.in_ok-tree.field-0.tree) c.requires.plain c.in_ok-tree.ensures)
    c.in_ok-outcome.field-0 c.in_ok-outcome.ensures).proof

pub returns-clause-claim : goal.returns-clause-claim
returns-clause-claim g c =
    (plain-right c.args.plant.now c.args.rows.now.program c.depth_limit.result c.slot_count.result c.args.budget (tree_of c.in_ok-tree.field-0.tree) (ended_of c.in_ok-tree.field-0) c.requires.sound c.requires.part c.depth_limit.ensures c.slot_count.ensures
    (as-plain c.depth_limit.result c.args.rows.now c.slot_count.result c.args.budget (ended_of c.in_ok-tree.field-0) (tree_of c.in_ok-tree.field-0.tree) c.requires.plain c.in_ok-tree.ensures)
    c.in_ok-outcome.field-0 c.in_ok-outcome.ensures).claim
