-- The taker that took all items of a proof has the proof.
use Rattle.std.proofs.Common.{[]}
use Rattle.branch_tree.proofs.Whole.{root-built}
use Rattle.branch_tree.proofs.searching.search.Goals as goal

pub with_tree-requires : goal.with_tree-requires
with_tree-requires g c = let found = c.in-Ok.ensures.ok.searched in (found.tree, found.handed.0.grown [] c.new-taker.ensures)

pub returns-in-Ok-clause-ok : goal.returns-in-Ok-clause-ok
returns-in-Ok-clause-ok g c =
    let found = c.in-Ok.ensures.ok.searched in
    root-built c.args.sought.now _ c.with_tree.result found.tree c.with_tree.ensures.ended (c.with_tree.ensures.tree found.tree (found.handed.0.grown [] c.new-taker.ensures)) found.search c.in-Ok.ensures.ok.begun
