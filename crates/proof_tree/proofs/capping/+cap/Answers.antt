-- The cap of a box is that of its end over the view after its cuts.
use Rattle.std.proofs.Common.{arith, sym, subst}
use Rattle.std.proofs.lemmas.Grind.{common_steps}
use Rattle.proof_tree.specs.Views.{present}
use Rattle.proof_tree.specs.Cap.{Bounds}
use Rattle.proof_tree.specs.Tree.{tree_of}
use Rattle.proof_tree.proofs.Sound.{tree_cap-bounds}
use Rattle.proof_tree.proofs.Trees.{tree_cap-tree_at}
use Rattle.proof_tree.proofs.capping.+cap.Goals as goal
use Rattle.proof_tree.proofs.capping.+cap.Goals.{cap_of-then-cut_all, cap_of-else-cut_all}

pub cap_of-returns-clause-cap : goal.cap_of-returns-clause-cap
cap_of-returns-clause-cap g t c =
    let node = c.args.proof.now in
    let by_end = tree_cap-tree_at (g.R.Relaxation.steps c.args.r.now) (present (g.R.Relaxation.views c.args.area.now)) node.cuts node.found node.end in
    grind (arith, common_steps)

pub cap_of-returns-clause-bounds : goal.cap_of-returns-clause-bounds
cap_of-returns-clause-bounds g t c =
    let node = c.args.proof.now in
    let r = c.args.r.now in
    let v = present (g.R.Relaxation.views c.args.area.now) in
    let bounded = tree_cap-bounds (g.R.Relaxation.steps r) (g.R.Relaxation.fits r) (g.R.Relaxation.is_point r) (g.R.Relaxation.is_lawful r) (g.R.Relaxation.worth r) (g.met.R.Relaxation.sound r) (tree_of node) v c.requires in
    subst (Bounds (g.R.Relaxation.is_point r v) (g.R.Relaxation.is_lawful r) (g.R.Relaxation.worth r)) (sym (cap_of-returns-clause-cap g t c)) bounded
