-- Before the first box nothing was put.
use Rattle.branch_tree.proofs.Stopping.{at_err}
use Rattle.branch_tree.proofs.Whole.{root-before}
use Rattle.advised_search.proofs.searching.search_advised.Goals as goal

pub returns-in_err-guide-clause-err : goal.returns-in_err-guide-clause-err
returns-in_err-guide-clause-err g c =
    at_err _ _ (root-before g.T.NodeTaker.took g.T.NodeTaker.broke c.args.sought.now.rules.most c.args.sought.now.rows.now c.args.sought.now.rules.floors c.args.taker.now c.args.out.now c.requires.can.searchable.program (g.met.T.NodeTaker.took_none c.args.taker.now c.args.out.now))
