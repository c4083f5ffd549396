-- Items that a writer takes one after another.
use Rattle.std.proofs.Common.{◌≡◌, ℕ, ◌+◌, ◌<◌, ◌≤◌, List, [], ◌∷◌, ◌++◌, length, get_or, map, take, Option, sym, subst, append_assoc, append-nil}
use Rattle.std.specs.Prelude.{option_to_list}
use Rattle.std.proofs.lemmas.List.{map_more, take_all}
use Rattle.stn_edge.specs.Files.{FileMap}
use Rattle.proof_log.specs.declared.writer.LogWriter.{LogWriter}
use Rattle.proof_tree.specs.declared.item.Item.TheVariants.{Cut as CutItem, Found as FoundItem, Node as NodeItem}
use Rattle.range_prop.specs.declared.row_cut.RowCut.{RowCut}
use Rattle.row_kit.specs.declared.found.Found.{Found}
use Rattle.row_relax.specs.RowProofs.{RowItem}
use Rattle.log_nodes.specs.declared.node.Node.{Node}
use Rattle.log_nodes.specs.laws.Nodes.{item_of, node_items}
use Rattle.log_parts.specs.laws.Copying.{HasItems}
use Rattle.merged_nodes.specs.laws.Puts.{PutsItems}

-- what is put after something else is put behind it
pub puts-then : (a b c : LogWriter) (old mid new : Option FileMap) (one two : List RowItem) → PutsItems a old b mid one → PutsItems b mid c new two → PutsItems a old c new (one ++ two)
puts-then a b c old mid new one two first second = λ front items has.
    subst (HasItems front c new) (append_assoc items one two) (second front (items ++ one) (first front items has))

-- one more cut was put
pub cut-put : (a b c : LogWriter) (old mid new : Option FileMap) (cuts : List RowCut) (place : ℕ) (d : RowCut) → place < length cuts → PutsItems a old b mid (NodeItem ∷ map CutItem (take place cuts)) → PutsItems b mid c new (CutItem (get_or cuts place d) ∷ [])
    → PutsItems a old c new (NodeItem ∷ map CutItem (take (place + 1) cuts))
cut-put a b c old mid new cuts place d lt first second =
    subst (λ (items : List RowItem). PutsItems a old c new (NodeItem ∷ items)) (sym (map_more CutItem cuts place d lt))
    (puts-then a b c old mid new (NodeItem ∷ map CutItem (take place cuts)) (CutItem (get_or cuts place d) ∷ []) first second)

-- all cuts were put
pub cuts-put : (a b : LogWriter) (old new : Option FileMap) (cuts : List RowCut) (place : ℕ) → length cuts ≤ place → PutsItems a old b new (NodeItem ∷ map CutItem (take place cuts)) → PutsItems a old b new (NodeItem ∷ map CutItem cuts)
cuts-put a b old new cuts place past first = subst (λ (own : List RowCut). PutsItems a old b new (NodeItem ∷ map CutItem own)) (take_all place cuts past) first

-- the cuts were put, and no point was found
pub none-put : (a b : LogWriter) (old new : Option FileMap) (cuts : List RowCut) → PutsItems a old b new (NodeItem ∷ map CutItem cuts) → PutsItems a old b new (NodeItem ∷ (map CutItem cuts ++ []))
none-put a b old new cuts first = subst (λ (items : List RowItem). PutsItems a old b new (NodeItem ∷ items)) (sym (append-nil (map CutItem cuts))) first

-- the cuts were put, and then the found point
pub found-put : (a b c : LogWriter) (old mid new : Option FileMap) (cuts : List RowCut) (found : Found) → PutsItems a old b mid (NodeItem ∷ map CutItem cuts) → PutsItems b mid c new (FoundItem found ∷ []) → PutsItems a old c new (NodeItem ∷ (map CutItem cuts ++ FoundItem found ∷ []))
found-put a b c old mid new cuts found first second = puts-then a b c old mid new (NodeItem ∷ map CutItem cuts) (FoundItem found ∷ []) first second

-- a node was put up to its end, and then that
pub node-put : (a b c : LogWriter) (old mid new : Option FileMap) (own : List RowCut) (item : RowItem) (node : Node) → own ≡ node.cuts → item ≡ item_of node.end → PutsItems a old b mid (NodeItem ∷ (map CutItem own ++ map FoundItem (option_to_list node.found)))
    → PutsItems b mid c new (item ∷ []) → PutsItems a old c new (node_items node)
node-put a b c old mid new own item node cuts_are item_is first second =
    let found : List RowItem = map FoundItem (option_to_list node.found) in
    let both = puts-then a b c old mid new (NodeItem ∷ (map CutItem own ++ found)) (item ∷ []) first second in
    let all = subst (λ (items : List RowItem). PutsItems a old c new (NodeItem ∷ items)) (append_assoc (map CutItem own) found (item ∷ [])) both in
    let last = subst (λ (one : RowItem). PutsItems a old c new (NodeItem ∷ (map CutItem own ++ (found ++ one ∷ [])))) item_is all in
    subst (λ (cuts : List RowCut). PutsItems a old c new (NodeItem ∷ (map CutItem cuts ++ (found ++ item_of node.end ∷ [])))) cuts_are last
