-- A node is merged of those that were looked at: an end that closes its box, else a split, else an end.
use Rattle.std.proofs.Common.{IfSome, map, Option, ℤ, refl, sym, subst}
use Rattle.std.proofs.Math.Seq.{take-length}
use Rattle.stn_edge.specs.Files.{FileMap, OthersStay}
use Rattle.proof_tree.specs.declared.capped.Capped.{Capped}
use Rattle.row_relax.specs.View.{Fits, view_of}
use Rattle.log_nodes.specs.laws.Nodes.{node_items}
use Rattle.log_nodes.specs.laws.Seen.{seen}
use Rattle.open_splits.specs.declared.splits.OpenSplit.{OpenSplit}
use Rattle.open_splits.specs.declared.way.Met.TheVariants.{End}
use Rattle.open_splits.proofs.Steps.{split-then}
use Rattle.log_parts.specs.laws.Copying.{name_of}
use Rattle.merged_nodes.specs.laws.Looked.{AreReading}
use Rattle.merged_nodes.specs.laws.Puts.{PutsItems}
use Rattle.log_parts.proofs.Frames.{also-reads, also-writes, both-then}
use Rattle.merge_walk.specs.laws.Opened.{GoesOnMerging, HasOpenedSplit, HasWritten, Merges}
use Rattle.merge_walk.specs.laws.Walked.{HasMergedSplit}
use Rattle.merge_walk.proofs.KeptLogs.{readings-stay, same-apart, same-none, same-passed}
use Rattle.merge_walk.proofs.MergedNodes.{closed-merged, end-merged, split-merged}
use Rattle.merge_walk.proofs.SplitNodes.{answer-always, end-answer, none-there}
use Rattle.merge_walk.proofs.nodes.merge_looked.Goals as goal

-- ---- no log splits

pub returns-in-Some-end-clause-written : goal.returns-in-Some-end-clause-written
returns-in-Some-end-clause-written g c = λ before has.
    let rows = c.args.merging.rows.now in
    let best = c.args.merging.best in
    let stem = c.args.merging.stem.now in
    let views = map view_of c.args.area.now in
    let told = g.F.Shelf.files c.args.files.now in
    let new' = g.F.Shelf.files c.write_end.new.files in
    let after = c.args.sources.now.items in
    let writer = c.args.writer.now in
    let later = c.write_end.new.writer in
    let end = c.in-Some-end.end in
    end-answer c.write_end.result (End end.cap) (PutsItems writer told later new' (node_items end.node)) (HasWritten rows best views views told new' stem c.args.depth before after writer later) c.write_end.ensures.put
    (λ put. (take-length views, (c.write_end.ensures.frame.others, end-merged rows best (seen c.args.area.now) told new' stem c.args.depth before after writer later c.args.looked end has (none-there c.args.looked.split c.in_default.not-Some) c.in-Some-end.is put)))

pub returns-in-Some-end-clause-on : goal.returns-in-Some-end-clause-on
returns-in-Some-end-clause-on g c =
    let sources = c.args.sources.now.items in
    let new' = g.F.Shelf.files c.write_end.new.files in
    answer-always c.write_end.result (GoesOnMerging c.args.merging new' sources sources c.args.area.now)
    (record {
      same = same-none sources;
      reading = readings-stay (name_of c.args.writer.now) c.args.merging.stem.now sources (g.F.Shelf.files c.args.files.now) new' c.write_end.ensures.frame.others c.requires.can.apart c.requires.can.reading;
      fits = c.requires.can.fits;
    })

pub returns-in-Some-end-clause-frame : goal.returns-in-Some-end-clause-frame
returns-in-Some-end-clause-frame g c = also-reads g.F.Shelf (name_of c.args.writer.now) c.args.files.now c.write_end.new.files c.write_end.ensures.frame

-- ---- an end closes its box

pub returns-then-branch-clause-written : goal.returns-then-branch-clause-written
returns-then-branch-clause-written g c = λ before has.
    let rows = c.args.merging.rows.now in
    let best = c.args.merging.best in
    let stem = c.args.merging.stem.now in
    let views = map view_of c.args.area.now in
    let told = g.F.Shelf.files c.args.files.now in
    let now = g.F.Shelf.files c.pass_below.new.files in
    let new' = g.F.Shelf.files c.write_end-then-branch.new.files in
    let depth = c.args.depth in
    let middle = c.args.sources.now.items in
    let after = c.pass_below.new.sources.items in
    let writer = c.args.writer.now in
    let later = c.write_end-then-branch.new.writer in
    let end = c.in-Some-closing.end in
    let kept = c.in-Some-closing.ensures in
    let passed = c.in_ok-pass_below-in-Some-closing.ensures.passed c.if-branch.true in
    end-answer c.write_end-then-branch.result (End end.cap) (PutsItems writer now later new' (node_items end.node)) (HasWritten rows best views views told new' stem depth before after writer later) c.write_end-then-branch.ensures.put
    (λ put. (
      take-length views,
      (
        subst (λ (files : Option FileMap). OthersStay (name_of writer) files new') c.in_ok-pass_below-in-Some-closing.ensures.frame.same c.write_end-then-branch.ensures.frame.others,
        closed-merged rows best (seen c.args.area.now) told new' stem depth before middle after writer later c.args.looked end c.in-Some.split has c.in-Some.is kept.0 kept.1 passed
            (subst (λ (files : Option FileMap). PutsItems writer files later new' (node_items end.node)) c.in_ok-pass_below-in-Some-closing.ensures.frame.same put),
      ),
    ))

pub returns-then-branch-clause-on : goal.returns-then-branch-clause-on
returns-then-branch-clause-on g c =
    let stem = c.args.merging.stem.now in
    let told = g.F.Shelf.files c.args.files.now in
    let now = g.F.Shelf.files c.pass_below.new.files in
    let new' = g.F.Shelf.files c.write_end-then-branch.new.files in
    let out = name_of c.args.writer.now in
    let before = c.args.sources.now.items in
    let after = c.pass_below.new.sources.items in
    let pass = c.in_ok-pass_below-in-Some-closing.ensures in
    let same = same-passed told stem c.in-Some.split.end c.args.depth before after (pass.passed c.if-branch.true) in
    let reading : AreReading now stem after = subst (λ (files : Option FileMap). AreReading files stem after) (sym pass.frame.same) (pass.reading c.if-branch.true) in
    answer-always c.write_end-then-branch.result (GoesOnMerging c.args.merging new' before after c.args.area.now)
    (record {
      same = same;
      reading = readings-stay out stem after now new' c.write_end-then-branch.ensures.frame.others (same-apart out out stem before after refl same c.requires.can.apart) reading;
      fits = c.requires.can.fits;
    })

pub returns-then-branch-clause-frame : goal.returns-then-branch-clause-frame
returns-then-branch-clause-frame g c =
    let out = name_of c.args.writer.now in
    both-then g.F.Shelf out out c.args.files.now c.pass_below.new.files c.write_end-then-branch.new.files refl (also-writes g.F.Shelf out c.args.files.now c.pass_below.new.files c.in_ok-pass_below-in-Some-closing.ensures.frame)
    (also-reads g.F.Shelf out c.pass_below.new.files c.write_end-then-branch.new.files c.write_end-then-branch.ensures.frame)

-- ---- a split

pub returns-in-Some-2-clause-written : goal.returns-in-Some-2-clause-written
returns-in-Some-2-clause-written g c = λ before has.
    let rows = c.args.merging.rows.now in
    let best = c.args.merging.best in
    let view = seen c.args.area.now in
    let stem = c.args.merging.stem.now in
    let views = map view_of c.args.area.now in
    let narrow = map view_of c.open_split.new.area in
    let told = g.F.Shelf.files c.args.files.now in
    let new' = g.F.Shelf.files c.open_split.new.files in
    let depth = c.args.depth in
    let middle = c.args.sources.now.items in
    let writer = c.args.writer.now in
    let later = c.open_split.new.writer in
    let node = c.in-Some.split in
    let opened = subst (λ (o : Option (OpenSplit (Option ℤ) Capped)). IfSome o (HasOpenedSplit rows best node views narrow told new' stem depth middle writer later)) c.in-Some-2.is c.in_ok-split-in-None-closing.ensures.opened in
    split-then (λ last cap. OthersStay (name_of writer) told last.told × HasMergedSplit rows best view node told last.told stem depth middle last.sources writer last.writer cap)
    (Merges rows best stem (name_of writer) depth view (record { told = told; sources = before; writer = writer }))
    (λ last cap parts. (parts.0, split-merged rows best view told last.told stem depth before middle last.sources writer last.writer c.args.looked node cap has c.in-Some.is c.in-None-closing.ensures parts.1)) opened

pub returns-in-Some-2-clause-on : goal.returns-in-Some-2-clause-on
returns-in-Some-2-clause-on g c =
    let rows = c.args.merging.rows.now in
    let sources = c.args.sources.now.items in
    record {
      same = same-none sources;
      reading = readings-stay (name_of c.args.writer.now) c.args.merging.stem.now sources (g.F.Shelf.files c.args.files.now) (g.F.Shelf.files c.open_split.new.files) c.in_ok-split-in-None-closing.ensures.frame.others c.requires.can.apart c.requires.can.reading;
      fits = subst (λ (o : Option (OpenSplit (Option ℤ) Capped)). IfSome o (λ _. Fits rows.program (seen c.open_split.new.area))) c.in-Some-2.is c.in_ok-split-in-None-closing.ensures.fits;
    }
