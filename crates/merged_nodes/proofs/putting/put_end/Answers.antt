-- The node up to its end, and then that.
use Rattle.std.proofs.Common.{refl}
use Rattle.merged_nodes.proofs.Puts.{node-put}
use Rattle.merged_nodes.proofs.putting.put_end.Goals as goal

pub returns-clause-put : goal.returns-clause-put
returns-clause-put g c =
    let told = g.F.Shelf.files c.args.files.now in
    let mid = g.F.Shelf.files c.put_node.new.files in
    let now = g.F.Shelf.files c.put_item.new.files in
    (refl, node-put c.args.writer.now c.put_node.new.writer c.put_item.new.writer told mid now c.as_slice.result.now c.item_of.result c.args.end.node c.as_slice.ensures c.item_of.ensures c.in_ok-put_node.ensures.put c.in_ok-put_item.ensures.ok)
