use Rattle.branch_tree.proofs.Best.{offered}
use Rattle.branch_tree.proofs.searching.offered.Goals as goal

pub returns : goal.returns
returns c = offered c.args.program.now c.args.least.now c.args.start.now c.in_ok-given.given c.in_ok-own.own c.better.result c.better.ensures c.in_ok-given.ensures c.in_ok-own.ensures
