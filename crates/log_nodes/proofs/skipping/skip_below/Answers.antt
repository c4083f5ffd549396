-- Each node leaves what stands below it to read, and where nothing is left, all was read.
use Rattle.std.proofs.Common.{◌≡◌, ◌∙◌, ◌-◌, ◌++◌, ℕ, List, ◌∷◌, Option, IfSome, refl, ap, subst, arith}
use Rattle.stn_edge.specs.Files.{FileMap}
use Rattle.log_nodes.specs.Reading.{IsReading, ReadsOn}
use Rattle.log_nodes.specs.laws.Nodes.{node_items}
use Rattle.log_nodes.specs.laws.Parts.{HasSkipped, parts_of}
use Rattle.log_nodes.proofs.Parts.{node-fewer, none-left, owes-first, owes-next, owes-none}
use Rattle.log_nodes.proofs.skipping.skip_below.Goals as goal

pub parts-init : goal.parts-init
parts-init g c = record {
  same = refl;
  readable = refl;
  writable = refl;
  no_write = refl;
  later = omega arith;
  reading = c.requires.reading;
  owes = owes-first (g.F.Shelf.files c.args.files.now) c.args.name.now c.args.reader.now c.args.end.now c.args.most c.boxes_at-boxes.result c.put_parts.new.rooms (c.in_ok-put_parts.ensures ∙ ap (λ (rooms : List ℕ). parts_of c.args.end.now c.args.most ++ rooms) c.new-rooms.ensures) c.boxes_at-boxes.ensures;
}

pub parts-smaller : goal.parts-smaller
parts-smaller g c =
    let now = g.F.Shelf.files c.parts.files in
    let has = subst (λ (o : Option ℕ). IfSome o (HasSkipped (λ items. ReadsOn now c.args.name.now c.parts.reader items c.skip_node.new.reader) (c.in-Some.room - 1) c.parts.boxes c.take_top.new.self c.skip_node.new.rooms)) c.in-Some-2.is c.in_ok-counts.ensures.skipped in
    node-fewer has.node.end c.in-Some.room c.take_top.new.self c.parts.rooms c.skip_node.new.rooms (omega arith) c.in-Some.ensures has.left

pub parts-preserved : goal.parts-preserved
parts-preserved g c =
    let told = g.F.Shelf.files c.args.files.now in
    let now = g.F.Shelf.files c.parts.files in
    let name = c.args.name.now in
    let a = c.parts.reader in
    let b = c.skip_node.new.reader in
    let walked = c.parts.invariant in
    let said = c.in_ok-counts.ensures in
    let has = subst (λ (o : Option ℕ). IfSome o (HasSkipped (λ items. ReadsOn now name a items b) (c.in-Some.room - 1) c.parts.boxes c.take_top.new.self c.skip_node.new.rooms)) c.in-Some-2.is said.skipped in
    let reading = subst (λ (o : Option ℕ). IfSome o (λ _. IsReading now name b)) c.in-Some-2.is said.reading in
    let read = subst (λ (files : Option FileMap). ReadsOn files name a (node_items has.node) b) walked.same has.read in
    record {
      same = said.frame.same ∙ walked.same;
      readable = said.frame.readable ∙ walked.readable;
      writable = said.frame.writable ∙ walked.writable;
      no_write = said.frame.no_write ∙ walked.no_write;
      later = omega (arith, said.frame.later, walked.later);
      reading = subst (λ (files : Option FileMap). IsReading files name b) walked.same reading;
      owes = owes-next told name c.args.reader.now a b c.args.end.now has.node c.in-Some.room (c.in-Some.room - 1) c.parts.boxes c.in-Some-2.counts c.take_top.new.self c.parts.rooms c.skip_node.new.rooms c.in-Some.ensures has.left has.sum read walked.owes;
    }

pub returns-clause-below : goal.returns-clause-below
returns-clause-below g c =
    let none = none-left c.take_top.result (λ top. c.parts.rooms ≡ top ∷ c.take_top.new.self) c.take_top.ensures c.in_default.not-Some in
    owes-none (g.F.Shelf.files c.args.files.now) c.args.name.now c.args.reader.now c.parts.reader c.args.end.now c.parts.boxes c.parts.rooms none.0 c.parts.invariant.owes
