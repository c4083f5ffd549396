-- The node and its cuts, and then the found point.
use Rattle.std.proofs.Common.{◌∷◌, ◌++◌, map, Option, sym, subst}
use Rattle.std.specs.Prelude.{OnOk, option_to_list}
use Rattle.proof_tree.specs.declared.item.Item.TheVariants.{Cut as CutItem, Found as FoundItem, Node as NodeItem}
use Rattle.row_kit.specs.declared.found.Found.{Found}
use Rattle.merged_nodes.specs.laws.Puts.{PutsItems}
use Rattle.merged_nodes.proofs.Puts.{found-put, none-put}
use Rattle.merged_nodes.proofs.Others.{ok-then}
use Rattle.merged_nodes.proofs.putting.put_node.Goals as goal

pub returns-in-Some-clause-put : goal.returns-in-Some-clause-put
returns-in-Some-clause-put g c =
    let told = g.F.Shelf.files c.args.files.now in
    let now = g.F.Shelf.files c.put_head.new.files in
    let new' = g.F.Shelf.files c.put_item.new.files in
    let writer = c.args.writer.now in
    let later = c.put_item.new.writer in
    let cuts = c.args.cuts.now in
    subst (λ (o : Option Found). OnOk c.put_item.result (PutsItems writer told later new' (NodeItem ∷ (map CutItem cuts ++ map FoundItem (option_to_list o))))) (sym c.in-Some.is)
    (ok-then c.put_item.result c.put_item.ensures.ok (found-put writer c.put_head.new.writer later told now new' cuts c.in-Some.found c.in_ok-put_head.ensures.put))

pub returns-in-None-clause-put : goal.returns-in-None-clause-put
returns-in-None-clause-put g c =
    let told = g.F.Shelf.files c.args.files.now in
    let now = g.F.Shelf.files c.put_head.new.files in
    let writer = c.args.writer.now in
    let later = c.put_head.new.writer in
    let cuts = c.args.cuts.now in
    subst (λ (o : Option Found). PutsItems writer told later now (NodeItem ∷ (map CutItem cuts ++ map FoundItem (option_to_list o)))) (sym c.in-None.is)
    (none-put writer later told now cuts c.in_ok-put_head.ensures.put)
