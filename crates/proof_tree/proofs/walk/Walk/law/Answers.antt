-- The law of the walk, by induction over the tree.
use Rattle.proof_tree.proofs.WalkLaw.{walked-whole, walked-comes, walked-so_far, walked-depth}
use Rattle.proof_tree.proofs.walk.Walk.law.Goals as goal

pub returns-clause-whole : goal.returns-clause-whole
returns-clause-whole g c =
    walked-whole g.row.R.Denot g.row.R-Area.Denot g.row.R-Found.Denot (g.R.Relaxation.steps c.args.r.now)

pub returns-clause-comes : goal.returns-clause-comes
returns-clause-comes g c =
    walked-comes g.row.R.Denot g.row.R-Area.Denot g.row.R-Found.Denot (g.R.Relaxation.steps c.args.r.now)

pub returns-clause-depth : goal.returns-clause-depth
returns-clause-depth g c =
    walked-depth g.row.R.Denot g.row.R-Area.Denot g.row.R-Found.Denot (g.R.Relaxation.steps c.args.r.now)

pub returns-clause-so_far : goal.returns-clause-so_far
returns-clause-so_far g c =
    walked-so_far g.row.R.Denot g.row.R-Area.Denot g.row.R-Found.Denot (g.R.Relaxation.steps c.args.r.now)
