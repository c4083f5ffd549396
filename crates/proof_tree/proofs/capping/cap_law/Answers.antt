-- The bound, by induction over the tree.
use Rattle.proof_tree.proofs.Sound.{tree_cap-bounds}
use Rattle.proof_tree.proofs.capping.cap_law.Goals as goal

pub returns : goal.returns
returns g c =
    let r = c.args.r.now in
    tree_cap-bounds (g.R.Relaxation.steps r) (g.R.Relaxation.fits r) (g.R.Relaxation.is_point r) (g.R.Relaxation.is_lawful r) (g.R.Relaxation.worth r) (g.met.R.Relaxation.sound r)
