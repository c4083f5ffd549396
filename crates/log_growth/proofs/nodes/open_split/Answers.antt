-- A split that is the same in both proofs is opened, and its area is narrowed to its left part.
use Rattle.std.proofs.Common.{◌≡◌, ◌∙◌, List, map, Some, sym, ap, subst, arith}
use Rattle.std.specs.Prelude.{Bool, if◌then◌else◌}
use Rattle.proof_tree.specs.Cap.{floor_cap}
use Rattle.proof_tree.specs.Tree.{after_cuts}
use Rattle.range_prop.specs.declared.row_cut.RowCut.{RowCut}
use Rattle.row_relax.specs.declared.pick.RowPick.{RowPick}
use Rattle.row_relax.specs.Steps.{row_steps}
use Rattle.row_relax.specs.View.{view_of}
use Rattle.log_nodes.specs.declared.node.Ending.TheVariants.{Split}
use Rattle.log_nodes.specs.OpenEnds.{leaves_open}
use Rattle.log_nodes.specs.laws.Seen.{seen}
use Rattle.log_nodes.proofs.Walking.{keeps-on}
use Rattle.open_splits.specs.laws.Opened.{HasOpened}
use Rattle.open_splits.proofs.Standing.{opened-so}
use Rattle.log_growth.specs.declared.way.Kept.{Kept}
use Rattle.log_growth.specs.laws.Opened.{HasOpenedSplit, floors_of}
use Rattle.log_growth.proofs.Grows.{floor_above}
use Rattle.log_growth.proofs.Steps.{split-opens}
use Rattle.log_growth.proofs.nodes.open_split.Goals as goal

pub returns-clause-opened : goal.returns-clause-opened
returns-clause-opened c =
    let pair = c.args.pair.now in
    let rows = pair.rows.now in
    let place = c.args.place in
    let node = c.args.node.now in
    let other = c.args.other.now in
    let pick = c.in-Split.pick in
    let cert = c.in-Split.cert in
    let old = map view_of c.args.area.now in
    let cut = c.cut_down.new.area in
    let divided = map view_of c.trim.new.area in
    let new' = map view_of c.open_split.new.area in
    let kept : Kept = record { number = place.number; above = c.leaves_open.result } in
    let there = subst (λ (cuts : List RowCut). after_cuts (row_steps rows.program) (seen c.args.area.now) cuts ≡ Some (seen cut)) c.as_slice.ensures (c.cut_down.ensures.cuts c.if-not-cut_down.false) in
    let floor : floors_of kept ≡ floor_above rows pair.profit (seen cut) pick cert =
    ap (λ (above : Bool). if above then 1 else 0) (c.leaves_open.ensures ∙ ap (leaves_open pair.profit) (c.floor_cap-floor.ensures ∙ ap floor_cap c.trim.ensures.floor)) in
    opened-so c.open_split.result (HasOpened rows.program place.depth divided new') (λ split. split.pick ≡ pick) (λ split. split.kept ≡ kept) (HasOpenedSplit pair place node other old new') c.open_split.ensures.opened c.open_split.ensures.pick c.open_split.ensures.kept
    (λ split opened picked kept_is told here. record {
      opened = record { divided = divided; keeps = keeps-on old (map view_of cut) divided c.cut_down.ensures.keeps c.trim.ensures.keeps; opened = opened; few = omega arith };
      then_ = split-opens pair told place old divided new' (seen cut) node other cert here split opened (ap (λ (own : Kept). own.number) kept_is) there (subst (λ (p : RowPick). seen c.trim.new.area ≡ (row_steps rows.program).trim (seen cut) p cert) (sym picked) c.trim.ensures.trimmed)
          (subst (λ (p : RowPick). node.end ≡ Split p cert) (sym picked) c.in-Split.is) (c.is_same_node.ensures c.if-not-is_same_node.false) (subst (λ (p : RowPick). floors_of split.kept ≡ floor_above rows pair.profit (seen cut) p cert) (sym picked) (ap floors_of kept_is ∙ floor));
    })
