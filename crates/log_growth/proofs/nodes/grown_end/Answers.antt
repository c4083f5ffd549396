-- The cuts of an end are made, it is counted, and the area goes back.
use Rattle.std.proofs.Common.{◌≡◌, List, map, Some, refl, subst}
use Rattle.proof_tree.specs.Tree.{after_cuts}
use Rattle.range_prop.specs.declared.row_cut.RowCut.{RowCut}
use Rattle.row_relax.specs.Steps.{row_steps}
use Rattle.row_relax.specs.View.{view_of}
use Rattle.log_nodes.specs.laws.Seen.{seen}
use Rattle.log_nodes.proofs.Walking.{back-there}
use Rattle.open_splits.proofs.Standing.{at-some}
use Rattle.log_growth.proofs.nodes.grown_end.Goals as goal

pub returns-in-Some-clause-grown : goal.returns-in-Some-clause-grown
returns-in-Some-clause-grown g c =
    let rows = c.args.pair.rows.now in
    let views = map view_of c.args.area.now in
    let cut = map view_of c.cut_down.new.area in
    let there = subst (λ (cuts : List RowCut). after_cuts (row_steps rows.program) (seen c.args.area.now) cuts ≡ Some (seen c.cut_down.new.area)) c.as_slice.ensures (c.cut_down.ensures.cuts c.if-not-cut_down.false) in
    let grew = at-some _ c.in-Some.is c.in_ok-growth.ensures.grown in
    record {
      is_so = record { cut = seen c.cut_down.new.area; there = there; below = grew.is_so };
      log_reading = grew.log_reading;
      out_reading = grew.out_reading;
      as_before = back-there views cut cut (map view_of c.back.new.area) c.mark-mark.result c.mark-mark.ensures c.cut_down.ensures.keeps refl c.back.ensures.views;
    }
