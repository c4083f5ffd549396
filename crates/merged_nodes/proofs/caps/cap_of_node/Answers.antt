-- The area is gone back to, and the cap is that of the end after the cuts.
use Rattle.std.proofs.Common.{List, Some, ◌≡◌, map, subst, refl}
use Rattle.range_prop.specs.declared.row_cut.RowCut.{RowCut}
use Rattle.proof_tree.specs.Tree.{after_cuts}
use Rattle.row_relax.specs.Steps.{row_steps}
use Rattle.row_relax.specs.View.{view_of}
use Rattle.log_nodes.specs.laws.Seen.{seen}
use Rattle.log_nodes.proofs.Walking.{back-there, mark-within}
use Rattle.merged_nodes.proofs.NodeCaps.{node-cap}
use Rattle.merged_nodes.proofs.caps.cap_of_node.Goals as goal

pub back-requires-clause-within : goal.back-requires-clause-within
back-requires-clause-within c = mark-within (map view_of c.args.area.now) (map view_of c.cut_down.new.area) (map view_of c.cut_down.new.area) c.mark-mark.result c.mark-mark.ensures c.cut_down.ensures.keeps refl

pub returns-clause-as_before : goal.returns-clause-as_before
returns-clause-as_before c =
    back-there (map view_of c.args.area.now) (map view_of c.cut_down.new.area) (map view_of c.cut_down.new.area) (map view_of c.back.new.area) c.mark-mark.result c.mark-mark.ensures c.cut_down.ensures.keeps refl c.back.ensures.views

pub returns-clause-cap : goal.returns-clause-cap
returns-clause-cap c =
    let rows = c.args.rows.now in
    let there = subst (λ (cuts : List RowCut). after_cuts (row_steps rows.program) (seen c.args.area.now) cuts ≡ Some (seen c.cut_down.new.area)) c.as_slice.ensures (c.cut_down.ensures.cuts c.if-not-cut_down.false) in
    node-cap rows (seen c.args.area.now) (seen c.cut_down.new.area) c.args.node.now c.cap_of_end-cap.result there c.cap_of_end-cap.ensures
