-- The next part of the log is an item.
use Rattle.std.proofs.Common.{None, subst}
use Rattle.proof_log.specs.LogReading.{IsPartAfter}
use Rattle.log_nodes.proofs.Readings.{item-read, reading-on}
use Rattle.log_nodes.proofs.reading.next_item.Goals as goal

pub next-requires-clause-open : goal.next-requires-clause-open
next-requires-clause-open g c = let on = c.requires.reading in (on.0, on.1.0, on.1.1.0, on.1.1.1.0, None, on.1.1.1.1)

pub returns-in-Item-clause-read : goal.returns-in-Item-clause-read
returns-in-Item-clause-read g c =
    let told = g.F.Shelf.files c.args.files.now in
    let name = c.args.name.now in
    item-read told name c.args.reader.now c.next.new.self c.in-Item.line c.in-Item.item
    (λ version head limits items claim read. subst (IsPartAfter told name version head limits items claim c.next.new.self) c.in-Item.is (c.in_ok-item.ensures.part version head limits items claim read))

pub returns-in-Item-clause-reading : goal.returns-in-Item-clause-reading
returns-in-Item-clause-reading g c =
    let told = g.F.Shelf.files c.args.files.now in
    let name = c.args.name.now in
    reading-on told name c.args.reader.now c.next.new.self _ c.requires.reading
    (item-read told name c.args.reader.now c.next.new.self c.in-Item.line c.in-Item.item
    (λ version head limits items claim read. subst (IsPartAfter told name version head limits items claim c.next.new.self) c.in-Item.is (c.in_ok-item.ensures.part version head limits items claim read)))
