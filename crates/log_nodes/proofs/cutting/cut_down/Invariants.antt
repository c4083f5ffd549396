-- The cuts that are left lead from the present view to what all cuts lead to from the first one.
use Rattle.std.proofs.Common.{◌≡◌, drop, map}
use Rattle.proof_tree.specs.Tree.{after_cuts}
use Rattle.proof_tree.specs.Views.{KeepsViews}
use Rattle.row_relax.specs.Steps.{row_steps}
use Rattle.row_relax.specs.View.{Fits, view_of}
use Rattle.log_nodes.specs.laws.Seen.{seen}
use Rattle.log_nodes.proofs.cutting.cut_down.Given as goal

abbrev pub invariant-loop-cut : goal.invariant-loop-cut
invariant-loop-cut l = record {
  fits : Fits l.rows.program (seen l.area);
  rest : after_cuts (row_steps l.rows.program) (seen l.area) (drop l.cut-index l.cuts) ≡ after_cuts (row_steps l.rows.program) (seen l.initial.area) l.cuts;
  keeps : KeepsViews (map view_of l.initial.area) (map view_of l.area);
}
