-- The cuts that are left lead from the present view to what all cuts lead to from the first one.
use Rattle.std.proofs.Common.{◌≡◌, drop}
use Rattle.proof_tree.specs.Views.{present, KeepsViews}
use Rattle.proof_tree.specs.Tree.{after_cuts}
use Rattle.proof_tree.proofs.capping.cut_all.Given as goal

abbrev pub invariant-loop-cut : goal.invariant-loop-cut
invariant-loop-cut g l =
    record {
      fits : g.R.Relaxation.fits l.r (present (g.R.Relaxation.views l.area));
      rest : after_cuts (g.R.Relaxation.steps l.r) (present (g.R.Relaxation.views l.area)) (drop l.cut-index l.cuts)
          ≡ after_cuts (g.R.Relaxation.steps l.r) (present (g.R.Relaxation.views l.initial.area)) l.cuts;
      keeps : KeepsViews (g.R.Relaxation.views l.initial.area) (g.R.Relaxation.views l.area);
    }
