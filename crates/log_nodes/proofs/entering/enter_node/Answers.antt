-- A node was read, and its cuts were made.
use Rattle.std.proofs.Common.{Option, subst, sym}
use Rattle.std.specs.Prelude.{IfSome}
use Rattle.stn_edge.specs.Files.{FileMap}
use Rattle.log_nodes.specs.declared.node.Node.{Node}
use Rattle.log_nodes.specs.Reading.{IsReading}
use Rattle.log_nodes.proofs.entering.enter_node.Goals as goal

pub returns-then-cut_down-clause-reading : goal.returns-then-cut_down-clause-reading
returns-then-cut_down-clause-reading g c =
    let reading = subst (λ (o : Option Node). IfSome o (λ _. IsReading (g.F.Shelf.files c.args.files.now) c.args.pair.log.now c.read_node.new.reader)) c.in-Some.is c.in_ok-node.ensures.reading in
    subst (λ (told : Option FileMap). IsReading told c.args.pair.log.now c.read_node.new.reader) (sym c.in_ok-node.ensures.same) reading
