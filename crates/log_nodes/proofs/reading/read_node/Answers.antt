-- The node, its cuts, a found point where it has one, and its end.
use Rattle.std.proofs.Common.{◌∙◌, [], ◌∷◌, ◌++◌, map, Option, Some, sym, ap, subst}
use Rattle.std.specs.Prelude.{IfSome}
use Rattle.stn_edge.specs.Files.{FileMap}
use Rattle.proof_tree.specs.declared.item.Item.TheVariants.{Cut as CutItem, Found as FoundItem}
use Rattle.row_relax.specs.RowProofs.{RowItem}
use Rattle.log_nodes.specs.declared.reading.NodeFront.{NodeFront}
use Rattle.log_nodes.specs.Reading.{IsReading, ReadsOn}
use Rattle.log_nodes.proofs.Readings.{found-node-if, plain-node-if, reading-on-if}
use Rattle.log_nodes.proofs.reading.read_node.Goals as goal

pub returns-in_default-next-clause-read : goal.returns-in_default-next-clause-read
returns-in_default-next-clause-read g c =
    let told = g.F.Shelf.files c.args.files.now in
    let now = g.F.Shelf.files c.next_item.new.files in
    let name = c.args.name.now in
    let a = c.args.reader.now in
    let b = c.next_item.new.reader in
    let d = c.read_cuts.new.reader in
    let node = subst (λ (o : Option RowItem). IfSome o (λ item. ReadsOn told name a (item ∷ []) b)) (c.in-Some-Node.is ∙ ap Some c.in-Some-Node.field-0-is) c.in_ok-next_item.ensures.read in
    let front = subst (λ (o : Option NodeFront). IfSome o (λ f. ReadsOn now name b (map CutItem f.cuts ++ f.next ∷ []) d)) c.in-Some.is c.in_ok-cuts.ensures.read in
    let here = subst (λ (files : Option FileMap). ReadsOn files name b (map CutItem c.in-Some.field-0.cuts ++ c.in-Some.field-0.next ∷ []) d) c.in_ok-next_item.ensures.frame.same front in
    plain-node-if told name a b d c.in-Some.field-0.cuts c.in-Some.field-0.next c.node_of.result node here c.node_of.ensures

pub returns-in_default-next-clause-reading : goal.returns-in_default-next-clause-reading
returns-in_default-next-clause-reading g c =
    let told = g.F.Shelf.files c.args.files.now in
    let now = g.F.Shelf.files c.next_item.new.files in
    let name = c.args.name.now in
    let a = c.args.reader.now in
    let b = c.next_item.new.reader in
    let d = c.read_cuts.new.reader in
    let node = subst (λ (o : Option RowItem). IfSome o (λ item. ReadsOn told name a (item ∷ []) b)) (c.in-Some-Node.is ∙ ap Some c.in-Some-Node.field-0-is) c.in_ok-next_item.ensures.read in
    let front = subst (λ (o : Option NodeFront). IfSome o (λ f. ReadsOn now name b (map CutItem f.cuts ++ f.next ∷ []) d)) c.in-Some.is c.in_ok-cuts.ensures.read in
    let here = subst (λ (files : Option FileMap). ReadsOn files name b (map CutItem c.in-Some.field-0.cuts ++ c.in-Some.field-0.next ∷ []) d) c.in_ok-next_item.ensures.frame.same front in
    reading-on-if told name a d c.node_of.result c.requires.reading (plain-node-if told name a b d c.in-Some.field-0.cuts c.in-Some.field-0.next c.node_of.result node here c.node_of.ensures)

pub returns-in-Some-2-clause-read : goal.returns-in-Some-2-clause-read
returns-in-Some-2-clause-read g c =
    let told = g.F.Shelf.files c.args.files.now in
    let now = g.F.Shelf.files c.next_item.new.files in
    let last = g.F.Shelf.files c.read_cuts.new.files in
    let name = c.args.name.now in
    let a = c.args.reader.now in
    let b = c.next_item.new.reader in
    let d = c.read_cuts.new.reader in
    let e = c.next_item-2.new.reader in
    let same = c.in_ok-next_item.ensures.frame.same in
    let node = subst (λ (o : Option RowItem). IfSome o (λ item. ReadsOn told name a (item ∷ []) b)) (c.in-Some-Node.is ∙ ap Some c.in-Some-Node.field-0-is) c.in_ok-next_item.ensures.read in
    let front = subst (λ (o : Option NodeFront). IfSome o (λ f. ReadsOn now name b (map CutItem f.cuts ++ f.next ∷ []) d)) c.in-Some.is c.in_ok-cuts.ensures.read in
    let cuts = subst (λ (item : RowItem). ReadsOn now name b (map CutItem c.in-Some.field-0.cuts ++ item ∷ []) d) c.in-Found.is front in
    let here = subst (λ (files : Option FileMap). ReadsOn files name b (map CutItem c.in-Some.field-0.cuts ++ FoundItem c.in-Found.found ∷ []) d) same cuts in
    let end = subst (λ (o : Option RowItem). IfSome o (λ item. ReadsOn last name d (item ∷ []) e)) c.in-Some-2.is c.in_ok-item.ensures.read in
    let there = subst (λ (files : Option FileMap). ReadsOn files name d (c.in-Some-2.item ∷ []) e) (c.in_ok-cuts.ensures.frame.same ∙ same) end in
    found-node-if told name a b d e c.in-Some.field-0.cuts c.in-Found.found c.in-Some-2.item c.node_of-in-Some-2.result node here there c.node_of-in-Some-2.ensures

pub returns-in-Some-2-clause-reading : goal.returns-in-Some-2-clause-reading
returns-in-Some-2-clause-reading g c =
    let told = g.F.Shelf.files c.args.files.now in
    let now = g.F.Shelf.files c.next_item.new.files in
    let last = g.F.Shelf.files c.read_cuts.new.files in
    let name = c.args.name.now in
    let a = c.args.reader.now in
    let b = c.next_item.new.reader in
    let d = c.read_cuts.new.reader in
    let e = c.next_item-2.new.reader in
    let same = c.in_ok-next_item.ensures.frame.same in
    let node = subst (λ (o : Option RowItem). IfSome o (λ item. ReadsOn told name a (item ∷ []) b)) (c.in-Some-Node.is ∙ ap Some c.in-Some-Node.field-0-is) c.in_ok-next_item.ensures.read in
    let front = subst (λ (o : Option NodeFront). IfSome o (λ f. ReadsOn now name b (map CutItem f.cuts ++ f.next ∷ []) d)) c.in-Some.is c.in_ok-cuts.ensures.read in
    let cuts = subst (λ (item : RowItem). ReadsOn now name b (map CutItem c.in-Some.field-0.cuts ++ item ∷ []) d) c.in-Found.is front in
    let here = subst (λ (files : Option FileMap). ReadsOn files name b (map CutItem c.in-Some.field-0.cuts ++ FoundItem c.in-Found.found ∷ []) d) same cuts in
    let end = subst (λ (o : Option RowItem). IfSome o (λ item. ReadsOn last name d (item ∷ []) e)) c.in-Some-2.is c.in_ok-item.ensures.read in
    let there = subst (λ (files : Option FileMap). ReadsOn files name d (c.in-Some-2.item ∷ []) e) (c.in_ok-cuts.ensures.frame.same ∙ same) end in
    reading-on-if told name a e c.node_of-in-Some-2.result c.requires.reading (found-node-if told name a b d e c.in-Some.field-0.cuts c.in-Found.found c.in-Some-2.item c.node_of-in-Some-2.result node here there c.node_of-in-Some-2.ensures)

pub read_cuts-requires-clause-reading : goal.read_cuts-requires-clause-reading
read_cuts-requires-clause-reading g c =
    let now = g.F.Shelf.files c.next_item.new.files in
    let reading = subst (λ (o : Option RowItem). IfSome o (λ _. IsReading (g.F.Shelf.files c.args.files.now) c.args.name.now c.next_item.new.reader)) (c.in-Some-Node.is ∙ ap Some c.in-Some-Node.field-0-is) c.in_ok-next_item.ensures.reading in
    subst (λ (told : Option FileMap). IsReading told c.args.name.now c.next_item.new.reader) (sym c.in_ok-next_item.ensures.frame.same) reading

pub next_item-requires-2-clause-reading : goal.next_item-requires-2-clause-reading
next_item-requires-2-clause-reading g c =
    let reading = subst (λ (o : Option NodeFront). IfSome o (λ _. IsReading (g.F.Shelf.files c.next_item.new.files) c.args.name.now c.read_cuts.new.reader)) c.in-Some.is c.in_ok-cuts.ensures.reading in
    subst (λ (told : Option FileMap). IsReading told c.args.name.now c.read_cuts.new.reader) (sym c.in_ok-cuts.ensures.frame.same) reading
