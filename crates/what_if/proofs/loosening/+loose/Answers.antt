-- The loose cap of a node is what its end gives over the view after its cuts.
use Rattle.std.proofs.Common.{arith}
use Rattle.std.proofs.lemmas.Grind.{common_steps}
use Rattle.what_if.specs.Loose.{shown}
use Rattle.what_if.proofs.Shown.{loose_cap-tree_at}
use Rattle.what_if.proofs.loosening.+loose.Goals as goal

pub node_cap-returns-clause-cap : goal.node_cap-returns-clause-cap
node_cap-returns-clause-cap t c =
    let node = c.args.proof.now in
    let by_end = loose_cap-tree_at c.args.capped c.args.rows.now (shown c.args.area.now) node.cuts node.found node.end in
    grind (arith, common_steps)
