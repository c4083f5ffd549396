-- The parts that are read are put, one after another, until the claim comes.
use Rattle.std.proofs.Common.{◌∙◌, None, Option, refl, rules, sym, subst}
use Rattle.std.specs.Prelude.{IsTrue}
use Rattle.stn_edge.specs.Files.{FileMap}
use Rattle.proof_log.specs.LogReading.{IsPartAfter}
use Rattle.log_nodes.specs.Reading.{IsReading}
use Rattle.log_nodes.proofs.Frames.{both-reads, both-then, both-writes, none-done}
use Rattle.log_nodes.proofs.Readings.{item-read, reading-on}
use Rattle.resumed_log.specs.laws.Beside.{out_name}
use Rattle.resumed_log.proofs.Readers.{reading-stays, still-beside}
use Rattle.resumed_log.proofs.copying.copy_items.Goals as goal

pub parts-init : goal.parts-init
parts-init g c = record { reading = c.requires.reading; named = refl; frame = none-done }

pub next-requires-clause-allowed : goal.next-requires-clause-allowed
next-requires-clause-allowed g c =
    let inv = c.parts.invariant in
    (still-beside inv.frame.readable inv.frame.writable inv.named c.requires.beside).may_read

pub next-requires-clause-open : goal.next-requires-clause-open
next-requires-clause-open g c = let on = c.parts.invariant.reading in (on.0, on.1.0, on.1.1.0, on.1.1.1.0, None, on.1.1.1.1)

pub put-requires : goal.put-requires
put-requires g c =
    let inv = c.parts.invariant in
    let next = c.in_ok-item.ensures in
    let may : IsTrue (g.F.Shelf.may_write c.next.new.files (out_name c.parts.out)) = (still-beside (next.frame.readable ∙ inv.frame.readable) (next.frame.writable ∙ inv.frame.writable) inv.named c.requires.beside).may_write in
    search rules

pub parts-preserved : goal.parts-preserved
parts-preserved g c =
    let inv = c.parts.invariant in
    let name = c.args.pair.log.now in
    let now = g.F.Shelf.files c.parts.files in
    let next = c.in_ok-item.ensures in
    let put = c.in_ok-put-in-Item.ensures in
    let read = item-read now name c.parts.reader c.next.new.self c.in-Item.line c.in-Item.item
    (λ version head limits items claim before. subst (IsPartAfter now name version head limits items claim c.next.new.self) c.in-Item.is (next.part version head limits items claim before)) in
    let reading = reading-on now name c.parts.reader c.next.new.self _ inv.reading read in
    let own = subst (λ (files : Option FileMap). IsReading files name c.next.new.self) (sym next.frame.same) reading in
    record {
      reading = reading-stays name (out_name c.parts.out) c.next.new.self (g.F.Shelf.files c.next.new.files) (g.F.Shelf.files c.put.new.files) put.frame.others (λ is. c.requires.beside.apart (sym inv.named ∙ is)) own;
      named = put.named ∙ inv.named;
      frame = both-then inv.named inv.frame (both-then refl (both-reads next.frame) (both-writes put.frame));
    }

pub returns-in_err-item-clause-frame : goal.returns-in_err-item-clause-frame
returns-in_err-item-clause-frame g c = both-then c.parts.invariant.named c.parts.invariant.frame (both-reads c.in_err-item.ensures.frame)

pub returns-in_err-put-in-Item-clause-frame : goal.returns-in_err-put-in-Item-clause-frame
returns-in_err-put-in-Item-clause-frame g c =
    let inv = c.parts.invariant in
    both-then inv.named inv.frame (both-then refl (both-reads c.in_ok-item.ensures.frame) (both-writes c.in_err-put-in-Item.ensures.frame))

pub returns-in-Claim-clause-frame : goal.returns-in-Claim-clause-frame
returns-in-Claim-clause-frame g c = both-then c.parts.invariant.named c.parts.invariant.frame (both-reads c.in_ok-item.ensures.frame)
