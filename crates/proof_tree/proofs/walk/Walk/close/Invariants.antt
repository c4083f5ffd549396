-- Closing the splits that are left with the cap so far leads to what closing all leads to with the first one.
use Rattle.std.proofs.Common.{◌≡◌, map, length}
use Rattle.proof_tree.specs.Walk.{opened, StandBelow, close}
use Rattle.proof_tree.proofs.walk.Walk.close.Given as goal

abbrev pub invariant-loop-left : goal.invariant-loop-left
invariant-loop-left g l =
    record {
      stands : StandBelow (g.R.Relaxation.steps l.r) (g.R.Relaxation.views l.area) (length (g.R.Relaxation.views l.area)) l.first l.self.splits;
      closes : close (g.R.Relaxation.steps l.r) (map (opened (g.R.Relaxation.views l.area)) l.self.splits) l.cap
          ≡ close (g.R.Relaxation.steps l.r) (map (opened (g.R.Relaxation.views l.area)) l.initial.self.splits) l.initial.cap;
      same_first : l.self.first ≡ l.initial.self.first;
    }

abbrev pub decreases-loop-left : goal.decreases-loop-left
decreases-loop-left g l = length l.self.splits
