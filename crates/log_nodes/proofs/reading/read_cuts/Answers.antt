-- The cuts so far, and the item behind them.
use Rattle.std.proofs.Common.{◌∙◌, List, [], ◌∷◌, map, Option, Some, refl, sym, ap, subst, arith}
use Rattle.std.specs.Prelude.{IfSome}
use Rattle.stn_edge.specs.Files.{FileMap}
use Rattle.proof_tree.specs.declared.item.Item.TheVariants.{Cut as CutItem}
use Rattle.range_prop.specs.declared.row_cut.RowCut.{RowCut}
use Rattle.row_relax.specs.RowProofs.{RowItem}
use Rattle.log_nodes.specs.Reading.{IsReading, ReadsOn}
use Rattle.log_nodes.proofs.Readings.{cut-read, reading-on, reads-none, reads-then}
use Rattle.log_nodes.proofs.Frames as frames
use Rattle.log_nodes.proofs.reading.read_cuts.Goals as goal

pub cuts-init : goal.cuts-init
cuts-init g c =
    let told = g.F.Shelf.files c.args.files.now in
    let name = c.args.name.now in
    record {
      on = subst (λ (cuts : List RowCut). ReadsOn told name c.args.reader.now (map CutItem cuts) c.args.reader.now) (sym c.new-cuts.ensures) (reads-none told name c.args.reader.now);
      reading = c.requires.reading;
      frame = record { same = refl; readable = refl; writable = refl; later = omega arith; no_write = refl };
    }

pub next_item-requires-clause-reading : goal.next_item-requires-clause-reading
next_item-requires-clause-reading g c = subst (λ (told : Option FileMap). IsReading told c.args.name.now c.cuts.reader) (sym c.cuts.invariant.frame.same) c.cuts.invariant.reading

pub cuts-preserved : goal.cuts-preserved
cuts-preserved g c =
    let told = g.F.Shelf.files c.args.files.now in
    let now = g.F.Shelf.files c.cuts.files in
    let name = c.args.name.now in
    let inv = c.cuts.invariant in
    let next = c.in_ok-cut.ensures in
    let cut = c.in-Some-Cut.cut in
    let is = c.in-Some-Cut.is ∙ ap Some c.in-Some-Cut.field-0-is in
    let read = subst (λ (o : Option RowItem). IfSome o (λ item. ReadsOn now name c.cuts.reader (item ∷ []) c.next_item.new.reader)) is next.read in
    let here = subst (λ (files : Option FileMap). ReadsOn files name c.cuts.reader (CutItem cut ∷ []) c.next_item.new.reader) inv.frame.same read in
    record {
      on = subst (λ (cuts : List RowCut). ReadsOn told name c.args.reader.now (map CutItem cuts) c.next_item.new.reader) (sym c.in_ok-push-in-Some-Cut.ensures.ok) (cut-read told name c.args.reader.now c.cuts.reader c.next_item.new.reader c.cuts.cuts cut inv.on here);
      reading = reading-on told name c.cuts.reader c.next_item.new.reader (CutItem cut ∷ []) inv.reading here;
      frame = frames.reads-then inv.frame next.frame;
    }

pub returns-in-Some-clause-read : goal.returns-in-Some-clause-read
returns-in-Some-clause-read g c =
    let told = g.F.Shelf.files c.args.files.now in
    let now = g.F.Shelf.files c.cuts.files in
    let name = c.args.name.now in
    let inv = c.cuts.invariant in
    let read = subst (λ (o : Option RowItem). IfSome o (λ item. ReadsOn now name c.cuts.reader (item ∷ []) c.next_item.new.reader)) c.in-Some.is c.in_ok-cut.ensures.read in
    let here = subst (λ (files : Option FileMap). ReadsOn files name c.cuts.reader (c.in-Some.next ∷ []) c.next_item.new.reader) inv.frame.same read in
    reads-then told name c.args.reader.now c.cuts.reader c.next_item.new.reader (map CutItem c.cuts.cuts) (c.in-Some.next ∷ []) inv.on here

pub returns-in-Some-clause-reading : goal.returns-in-Some-clause-reading
returns-in-Some-clause-reading g c =
    let now = g.F.Shelf.files c.cuts.files in
    let name = c.args.name.now in
    let inv = c.cuts.invariant in
    let read = subst (λ (o : Option RowItem). IfSome o (λ item. ReadsOn now name c.cuts.reader (item ∷ []) c.next_item.new.reader)) c.in-Some.is c.in_ok-cut.ensures.read in
    let here = subst (λ (files : Option FileMap). ReadsOn files name c.cuts.reader (c.in-Some.next ∷ []) c.next_item.new.reader) inv.frame.same read in
    reading-on (g.F.Shelf.files c.args.files.now) name c.cuts.reader c.next_item.new.reader (c.in-Some.next ∷ []) inv.reading here
