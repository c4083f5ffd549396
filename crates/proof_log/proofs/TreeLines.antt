-- The lines of a node: its own, those of its cuts and of its found point, and those of its end.
use Rattle.std.proofs.Common.{◌≡◌, ℕ, List, [], ◌∷◌, ◌++◌, map, flat_map, option_to_list, Option, refl, sym, ap, ◌∙◌, append_assoc}
use Rattle.std.proofs.lemmas.Grind.{flat_map-append}
use Rattle.row_kit.specs.declared.found.Found.{Found}
use Rattle.range_prop.specs.declared.row_cut.RowCut.{RowCut}
use Rattle.dual_bound.specs.declared.cert.Cert.{Cert}
use Rattle.proof_tree.specs.declared.item.Item.TheVariants.{Cut, Found as FoundItem, Split}
use Rattle.proof_tree.specs.declared.proof.End.{End, Empty, Dual, Point, Pending, Split'}
use Rattle.proof_tree.specs.Items.{leaf_item, tree_items}
use Rattle.proof_tree.specs.Tree.{no_point, dual, one_point, pending, tree_at}
use Rattle.row_relax.specs.declared.RowPick.{RowPick}
use Rattle.log_lines.specs.declared.line.Line.{Line}
use Rattle.log_lines.specs.declared.line.Line.TheVariants.{Node as NodeLine}
use Rattle.log_lines.specs.Line.{line_text}
use Rattle.row_relax.specs.RowProofs.{RowItem}
use Rattle.proof_log.specs.Log.{item_lines, lines_text, tree_lines, end_lines}
use Rattle.proof_log.proofs.Lines.{lines_text-one, text_more}

-- the lines of cuts and of a found point
abbrev pub cuts_lines : List RowCut → List Line
cuts_lines cuts = flat_map item_lines (map Cut cuts)

abbrev pub found_lines : Option Found → List Line
found_lines found = flat_map item_lines (map FoundItem (option_to_list found))

-- the lines of a node are its own, those of its cuts, of its found point, and of its end
three_parts : (a b c : List RowItem) → flat_map item_lines (a ++ (b ++ c)) ≡ flat_map item_lines a ++ (flat_map item_lines b ++ flat_map item_lines c)
three_parts a b c = flat_map-append item_lines a (b ++ c) ∙ ap (λ (lines : List Line). flat_map item_lines a ++ lines) (flat_map-append item_lines b c)

pub tree_lines-tree_at : (cuts : List RowCut) (found : Option Found) (end : End RowCut Cert RowPick Found) → tree_lines (tree_at cuts found end) ≡ NodeLine ∷ (cuts_lines cuts ++ (found_lines found ++ end_lines end))
unfolding item_lines
tree_lines-tree_at cuts found Empty = ap (λ (lines : List Line). NodeLine ∷ lines) (three_parts (map Cut cuts) (map FoundItem (option_to_list found)) (leaf_item no_point ∷ []))
tree_lines-tree_at cuts found (Dual cert) = ap (λ (lines : List Line). NodeLine ∷ lines) (three_parts (map Cut cuts) (map FoundItem (option_to_list found)) (leaf_item (dual cert) ∷ []))
tree_lines-tree_at cuts found Point = ap (λ (lines : List Line). NodeLine ∷ lines) (three_parts (map Cut cuts) (map FoundItem (option_to_list found)) (leaf_item one_point ∷ []))
tree_lines-tree_at cuts found (Pending cert) = ap (λ (lines : List Line). NodeLine ∷ lines) (three_parts (map Cut cuts) (map FoundItem (option_to_list found)) (leaf_item (pending cert) ∷ []))
tree_lines-tree_at cuts found (Split' pick cert a cuts1 found1 end1 b cuts2 found2 end2) =
    ap (λ (lines : List Line). NodeLine ∷ lines)
    (three_parts (map Cut cuts) (map FoundItem (option_to_list found)) (Split pick cert ∷ (tree_items (tree_at cuts1 found1 end1) ++ tree_items (tree_at cuts2 found2 end2))))

-- the texts of the parts of a node, one after another, are that of the node
pub node_written : (text a b c : List ℕ) (cuts : List RowCut) (found : Option Found) (end : End RowCut Cert RowPick Found)
    → a ≡ text ++ (line_text NodeLine ++ 10 ∷ []) → b ≡ a ++ lines_text (cuts_lines cuts) → c ≡ b ++ lines_text (found_lines found)
    → c ++ lines_text (end_lines end) ≡ text ++ lines_text (tree_lines (tree_at cuts found end))
node_written text a b c cuts found end first second third =
    let one : a ≡ text ++ lines_text (NodeLine ∷ []) = first ∙ ap (λ (t : List ℕ). text ++ t) (sym (lines_text-one NodeLine)) in
    let two = text_more text a b (NodeLine ∷ []) (cuts_lines cuts) one second in
    let three = text_more text b c (NodeLine ∷ cuts_lines cuts) (found_lines found) two third in
    let four = text_more text c (c ++ lines_text (end_lines end)) ((NodeLine ∷ cuts_lines cuts) ++ found_lines found) (end_lines end) three refl in
    let regrouped : ((NodeLine ∷ cuts_lines cuts) ++ found_lines found) ++ end_lines end ≡ NodeLine ∷ (cuts_lines cuts ++ (found_lines found ++ end_lines end)) = ap (λ (lines : List Line). NodeLine ∷ lines) (append_assoc (cuts_lines cuts) (found_lines found) (end_lines end)) in
    four ∙ ap (λ (lines : List Line). text ++ lines_text lines) (regrouped ∙ sym (tree_lines-tree_at cuts found end))
