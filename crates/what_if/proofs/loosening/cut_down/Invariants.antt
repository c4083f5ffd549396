-- The cuts that are left lead from the present view to what all cuts lead to from the first one.
use Rattle.std.proofs.Common.{◌≡◌, drop, map}
use Rattle.proof_tree.specs.Views.{KeepsViews}
use Rattle.row_relax.specs.View.{Fits, view_of}
use Rattle.what_if.specs.Loose.{after_all, shown}
use Rattle.what_if.proofs.loosening.cut_down.Given as goal

abbrev pub invariant-loop-cut : goal.invariant-loop-cut
invariant-loop-cut l = record {
  fits : Fits l.rows.program (shown l.area);
  rest : after_all l.rows.program (shown l.area) (drop l.cut-index l.cuts) ≡ after_all l.rows.program (shown l.initial.area) l.cuts;
  keeps : KeepsViews (map view_of l.initial.area) (map view_of l.area);
}
