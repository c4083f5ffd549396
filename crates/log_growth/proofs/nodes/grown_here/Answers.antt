-- The next node is read in both logs: an end is counted, and a split is opened.
use Rattle.std.proofs.Common.{◌∙◌, List, map, Option, refl, sym, subst}
use Rattle.stn_edge.specs.Files.{FileMap}
use Rattle.std.proofs.Math.Seq.{take-length}
use Rattle.proof_tree.specs.Views.{KeepsViews, View, present}
use Rattle.row_relax.specs.View.{Fits, view_of}
use Rattle.log_nodes.specs.Reading.{IsReading, ReadsOn}
use Rattle.log_nodes.specs.laws.Nodes.{node_items}
use Rattle.log_nodes.specs.laws.Seen.{seen}
use Rattle.log_nodes.proofs.Frames.{reads-then}
use Rattle.log_nodes.proofs.Readings.{behind-items}
use Rattle.log_nodes.proofs.Walking.{leaf-end}
use Rattle.open_splits.proofs.Steps.{split-then}
use Rattle.store_frames.specs.Frames.{OnlyReads}
use Rattle.log_growth.specs.laws.Opened.{Grows, GrowsNode}
use Rattle.log_growth.proofs.Grows.{node-grown}
use Rattle.log_growth.proofs.ReadOn.{can-still, only-reads}
use Rattle.open_splits.proofs.Standing.{at-some}
use Rattle.log_growth.proofs.nodes.grown_here.Goals as goal

pub read_node-requires-2-clause-reading : goal.read_node-requires-2-clause-reading
read_node-requires-2-clause-reading g c = subst (λ (told : Option FileMap). IsReading told c.args.pair.out.now c.args.readers.now.out) (sym c.in_ok-node.ensures.same) c.requires.can.out_reading

-- ---- a split

pub returns-in-Split-clause-met : goal.returns-in-Split-clause-met
returns-in-Split-clause-met g c =
    let pair = c.args.pair in
    let rows = pair.rows.now in
    let told = g.F.Shelf.files c.args.files.now in
    let mid = g.F.Shelf.files c.read_node.new.files in
    let views = map view_of c.args.area.now in
    let wide = map view_of c.open_split.new.area in
    let before = c.args.readers.now in
    let here = record before { log = c.read_node.new.reader; out = c.read_node-2.new.reader } in
    let node = c.in-Some.node in
    let other = c.in-Some-2.other in
    let read = at-some (λ n. ReadsOn told pair.log.now before.log (node_items n) here.log) c.in-Some.is c.in_ok-node.ensures.read in
    let read_out = subst (λ (files : Option FileMap). ReadsOn files pair.out.now before.out (node_items other) here.out) c.in_ok-node.ensures.same (at-some (λ n. ReadsOn mid pair.out.now before.out (node_items n) here.out) c.in-Some-2.is c.in_ok-other.ensures.read) in
    let opened = at-some _ c.in-Some-open_split.is c.open_split.ensures.opened in
    split-then (GrowsNode pair told c.args.place (present views) node other here) (Grows pair told c.args.place (present views) before)
    (λ later growth has. node-grown pair.most rows pair.profit pair.share c.args.place.depth c.args.place.number (present views) node other (λ items. ReadsOn told pair.log.now here.log items later.log) (λ items. ReadsOn told pair.out.now here.out items later.out)
    (λ items. ReadsOn told pair.log.now before.log items later.log) (λ items. ReadsOn told pair.out.now before.out items later.out) growth (behind-items told told pair.log.now before.log here.log later.log (node_items node) refl read) (behind-items told told pair.out.now before.out here.out later.out (node_items other) refl read_out) has)
    (opened told here)

pub returns-in-Split-clause-out_reading : goal.returns-in-Split-clause-out_reading
returns-in-Split-clause-out_reading g c =
    subst (λ (files : Option FileMap). IsReading files c.args.pair.out.now c.read_node-2.new.reader) c.in_ok-node.ensures.same (at-some (λ _. IsReading (g.F.Shelf.files c.read_node.new.files) c.args.pair.out.now c.read_node-2.new.reader) c.in-Some-2.is c.in_ok-other.ensures.reading)

-- ---- an end

pub grown_end-requires-clause-can : goal.grown_end-requires-clause-can
grown_end-requires-clause-can g c =
    let node = c.in_ok-node.ensures in
    let other = c.in_ok-other.ensures in
    let one : OnlyReads g.F.Shelf c.args.files.now c.read_node.new.files = only-reads node.same node.readable node.writable node.later node.no_write in
    let two : OnlyReads g.F.Shelf c.read_node.new.files c.read_node-2.new.files = only-reads other.same other.readable other.writable other.later other.no_write in
    let log_reading = at-some (λ _. IsReading (g.F.Shelf.files c.args.files.now) c.args.pair.log.now c.read_node.new.reader) c.in-Some.is node.reading in
    let out_reading = at-some (λ _. IsReading (g.F.Shelf.files c.read_node.new.files) c.args.pair.out.now c.read_node-2.new.reader) c.in-Some-2.is other.reading in
    can-still c.requires.can (reads-then one two) log_reading (subst (λ (files : Option FileMap). IsReading files c.args.pair.out.now c.read_node-2.new.reader) node.same out_reading) c.requires.can.fits

pub grown_end-requires-clause-leaf : goal.grown_end-requires-clause-leaf
grown_end-requires-clause-leaf g c = leaf-end c.in-Some.node.end c.in_default-end.not-Split

pub returns-in-Some-3-clause-met : goal.returns-in-Some-3-clause-met
returns-in-Some-3-clause-met g c =
    let pair = c.args.pair in
    let rows = pair.rows.now in
    let told = g.F.Shelf.files c.args.files.now in
    let mid = g.F.Shelf.files c.read_node.new.files in
    let now = g.F.Shelf.files c.read_node-2.new.files in
    let view = seen c.args.area.now in
    let views = map view_of c.args.area.now in
    let before = c.args.readers.now in
    let here = record before { log = c.read_node.new.reader; out = c.read_node-2.new.reader } in
    let later = c.grown_end.new.readers in
    let node = c.in-Some.node in
    let other = c.in-Some-2.other in
    let same_now = c.in_ok-other.ensures.same ∙ c.in_ok-node.ensures.same in
    let read = at-some (λ n. ReadsOn told pair.log.now before.log (node_items n) here.log) c.in-Some.is c.in_ok-node.ensures.read in
    let read_out = subst (λ (files : Option FileMap). ReadsOn files pair.out.now before.out (node_items other) here.out) c.in_ok-node.ensures.same (at-some (λ n. ReadsOn mid pair.out.now before.out (node_items n) here.out) c.in-Some-2.is c.in_ok-other.ensures.read) in
    let grew = at-some _ c.in-Some-3.is c.in_ok-growth.ensures.grown in (
      subst (KeepsViews views) (sym grew.as_before) (take-length views),
      node-grown pair.most rows pair.profit pair.share c.args.place.depth c.args.place.number view node other (λ items. ReadsOn now pair.log.now here.log items later.log) (λ items. ReadsOn now pair.out.now here.out items later.out)
          (λ items. ReadsOn told pair.log.now before.log items later.log) (λ items. ReadsOn told pair.out.now before.out items later.out) c.in-Some-3.growth (behind-items told now pair.log.now before.log here.log later.log (node_items node) same_now read) (behind-items told now pair.out.now before.out here.out later.out (node_items other) same_now read_out) grew.is_so,
    )

pub returns-in-Some-3-clause-log_reading : goal.returns-in-Some-3-clause-log_reading
returns-in-Some-3-clause-log_reading g c =
    subst (λ (files : Option FileMap). IsReading files c.args.pair.log.now c.grown_end.new.readers.log) (c.in_ok-other.ensures.same ∙ c.in_ok-node.ensures.same) (at-some _ c.in-Some-3.is c.in_ok-growth.ensures.grown).log_reading

pub returns-in-Some-3-clause-out_reading : goal.returns-in-Some-3-clause-out_reading
returns-in-Some-3-clause-out_reading g c =
    subst (λ (files : Option FileMap). IsReading files c.args.pair.out.now c.grown_end.new.readers.out) (c.in_ok-other.ensures.same ∙ c.in_ok-node.ensures.same) (at-some _ c.in-Some-3.is c.in_ok-growth.ensures.grown).out_reading

pub returns-in-Some-3-clause-fits : goal.returns-in-Some-3-clause-fits
returns-in-Some-3-clause-fits g c =
    subst (λ (views : List View). Fits c.args.pair.rows.now.program (present views)) (sym (at-some _ c.in-Some-3.is c.in_ok-growth.ensures.grown).as_before) c.requires.can.fits

pub returns-in-Some-3-clause-frame : goal.returns-in-Some-3-clause-frame
returns-in-Some-3-clause-frame g c =
    let node = c.in_ok-node.ensures in
    let other = c.in_ok-other.ensures in
    let one : OnlyReads g.F.Shelf c.args.files.now c.read_node.new.files = only-reads node.same node.readable node.writable node.later node.no_write in
    let two : OnlyReads g.F.Shelf c.read_node.new.files c.read_node-2.new.files = only-reads other.same other.readable other.writable other.later other.no_write in
    reads-then (reads-then one two) c.in_ok-growth.ensures.frame
