-- A node that splits is written, and its area is narrowed to its left part.
use Rattle.std.proofs.Common.{◌≡◌, ◌∙◌, List, map, Some, sym, subst}
use Rattle.proof_tree.specs.Tree.{after_cuts}
use Rattle.range_prop.specs.declared.row_cut.RowCut.{RowCut}
use Rattle.row_relax.specs.declared.pick.RowPick.{RowPick}
use Rattle.row_relax.specs.Choices.{steps_of}
use Rattle.row_relax.specs.Steps.{row_steps}
use Rattle.row_relax.specs.View.{view_of}
use Rattle.log_nodes.specs.declared.node.Ending.TheVariants.{Split}
use Rattle.log_nodes.specs.laws.Seen.{seen}
use Rattle.log_nodes.proofs.Walking.{keeps-on}
use Rattle.open_splits.specs.laws.Opened.{HasOpened}
use Rattle.open_splits.proofs.Standing.{opened-so}
use Rattle.log_parts.specs.laws.Copying.{name_of}
use Rattle.store_frames.specs.Frames.{WritesOne}
use Rattle.log_parts.proofs.Frames.{writes-then}
use Rattle.merged_nodes.proofs.Others.{others-then}
use Rattle.merged_nodes.proofs.Puts.{node-put}
use Rattle.merge_walk.specs.laws.Opened.{HasOpenedSplit}
use Rattle.merge_walk.proofs.SplitNodes.{same-cuts, split-end}
use Rattle.merge_walk.proofs.Steps.{split-leads}
use Rattle.merge_walk.proofs.nodes.open_split.Goals as goal

pub returns-in_default-clause-frame : goal.returns-in_default-clause-frame
returns-in_default-clause-frame g c =
    let node = c.in_ok-put_node.ensures in
    let end = c.in_ok-put_item.ensures in
    let out = name_of c.args.writer.now in
    let later = name_of c.put_node.new.writer in
    let put : WritesOne g.F.Shelf later c.put_node.new.files c.put_item.new.files = record { others = end.others; readable = end.readable; writable = end.writable; no_read = end.reads; writes = end.writes } in
    writes-then g.F.Shelf out later c.args.files.now c.put_node.new.files c.put_item.new.files node.named node.frame put

pub returns-clause-opened : goal.returns-clause-opened
returns-clause-opened g c =
    let rows = c.args.merging.rows.now in
    let best = c.args.merging.best in
    let stem = c.args.merging.stem.now in
    let told = g.F.Shelf.files c.args.files.now in
    let mid = g.F.Shelf.files c.put_node.new.files in
    let now = g.F.Shelf.files c.put_item.new.files in
    let depth = c.args.depth in
    let sources = c.args.sources.now.items in
    let writer = c.args.writer.now in
    let between = c.put_item.new.writer in
    let node = c.args.node in
    let pick = c.in-Split.pick in
    let cert = c.in-Split.cert in
    let own = c.in_ok-put_node.ensures in
    let end = c.in_ok-put_item.ensures in
    let view = seen c.args.area.now in
    let cut = c.cut_down.new.area in
    let rest = c.trim-floor.new.area in
    let others = others-then (name_of writer) (name_of c.put_node.new.writer) told mid now own.named own.frame.others end.others in
    let put = node-put writer c.put_node.new.writer between told mid now c.as_slice-2.result.now c.item_of-item.result node c.as_slice-2.ensures c.item_of-item.ensures own.put end.ok in
    let there = subst (λ (cuts : List RowCut). after_cuts (row_steps rows.program) view cuts ≡ Some (seen cut)) c.as_slice.ensures (c.cut_down.ensures.cuts c.if-not-cut_down.false) in
    let led = same-cuts rows view node.cuts ∙ there in
    let is = split-end node.end pick cert c.item_of-item.result c.item_of-item.ensures c.in-Split.is in
    let name = name_of writer in
    let views = map view_of c.args.area.now in
    let narrow = map view_of c.open_split.new.area in
    opened-so c.open_split.result (HasOpened rows.program depth (map view_of rest) narrow) (λ split. split.pick ≡ pick) (λ split. split.kept ≡ c.trim-floor.result) (HasOpenedSplit rows best node views narrow told now stem depth sources writer between)
    c.open_split.ensures.opened c.open_split.ensures.pick c.open_split.ensures.kept
    (λ split opened picked kept. record {
      opened = record {
        divided = map view_of rest;
        keeps = keeps-on views (map view_of cut) (map view_of rest) c.cut_down.ensures.keeps c.trim-floor.ensures.keeps;
        opened = opened;
        few = c.requires.depth;
      };
      then_ = split-leads rows best stem name depth view (seen cut) (map view_of rest) narrow node cert told now sources writer between split opened (subst (λ (p : RowPick). node.end ≡ Split p cert) (sym picked) is) led
          (subst (λ (p : RowPick). seen rest ≡ (steps_of rows).trim (seen cut) p cert) (sym picked) c.trim-floor.ensures.trimmed) (subst (λ (p : RowPick). split.kept ≡ (steps_of rows).floor (seen cut) p cert) (sym picked) (kept ∙ c.trim-floor.ensures.floor)) put others c.requires.apart;
    })
