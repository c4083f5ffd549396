-- Items that readers have read, one after another.
use Rattle.std.proofs.Common.{◌≡◌, ◌∙◌, ℕ, List, [], ◌∷◌, ◌++◌, map, Option, None, Some, sym, ap, subst, append_assoc, append-nil}
use Rattle.std.specs.Prelude.{IfOk, IfSome, Result, Ok, Err, option_to_list}
use Rattle.std.proofs.lemmas.List.{map-append}
use Rattle.stn_edge.specs.Files.{FileMap, file_of}
use Rattle.log_lines.specs.declared.grammar.Limits.{Limits}
use Rattle.proof_log.specs.declared.claim.Claim.{Claim}
use Rattle.proof_log.specs.declared.log_reader.LogReader.{LogReader}
use Rattle.proof_log.specs.declared.log_reader.LogPart.TheVariants.{Item as ItemPart, Claim as ClaimPart, End as EndPart}
use Rattle.proof_log.specs.Behind.{behind}
use Rattle.proof_log.specs.LogReading.{HasRead, IsClean, IsPartAfter}
use Rattle.proof_tree.specs.Items.{tree_items}
use Rattle.proof_tree.specs.declared.item.Item.TheVariants.{Node as NodeItem, Cut as CutItem, Found as FoundItem}
use Rattle.range_prop.specs.declared.row_cut.RowCut.{RowCut}
use Rattle.row_kit.specs.declared.found.Found.{Found}
use Rattle.row_relax.specs.RowProofs.{RowItem}
use Rattle.log_nodes.specs.declared.node.Node.{Node}
use Rattle.log_nodes.specs.declared.node.Ending.{Ending}
use Rattle.log_nodes.specs.declared.node.Ending.TheVariants.{Empty, Dual, Point, Pending, Split}
use Rattle.log_nodes.specs.Reading.{EndsClean, IsReading, ReadsOn}
use Rattle.log_nodes.specs.laws.Nodes.{Below, below_items, item_of, node_items, tree_with}

-- a reader that has read nothing further
pub reads-none : (told : Option FileMap) (name : List ℕ) (a : LogReader) → ReadsOn told name a [] a
reads-none told name a = λ version head limits items read. subst (λ (all : List RowItem). HasRead told name version head limits all None a) (sym (append-nil items)) read

-- what is read after something else is read behind it
pub reads-then : (told : Option FileMap) (name : List ℕ) (a b c : LogReader) (one two : List RowItem) → ReadsOn told name a one b → ReadsOn told name b two c → ReadsOn told name a (one ++ two) c
reads-then told name a b c one two first second = λ version head limits items read.
    subst (λ (all : List RowItem). HasRead told name version head limits all None c) (append_assoc items one two) (second version head limits (items ++ one) (first version head limits items read))

-- the files show to the second reading what they showed to the first
pub reads-after : (old new : Option FileMap) (name : List ℕ) (a b c : LogReader) (one two : List RowItem) → new ≡ old → ReadsOn old name a one b → ReadsOn new name b two c → ReadsOn old name a (one ++ two) c
reads-after old new name a b c one two same first second = reads-then old name a b c one two first (subst (λ (told : Option FileMap). ReadsOn told name b two c) same second)

-- a reader reads on
pub reading-on : (told : Option FileMap) (name : List ℕ) (a b : LogReader) (added : List RowItem) → IsReading told name a → ReadsOn told name a added b → IsReading told name b
reading-on told name a b added is on = (is.0, (is.1.0, (is.1.1.0, (is.1.1.1.0 ++ added, on is.0 is.1.0 is.1.1.0 is.1.1.1.0 is.1.1.1.1))))

-- the next part of a log is an item
pub item-read : (told : Option FileMap) (name : List ℕ) (a b : LogReader) (line : ℕ) (item : RowItem)
    → ((version head : ℕ) (limits : Limits) (items : List RowItem) (claim : Option Claim) → HasRead told name version head limits items claim a → IsPartAfter told name version head limits items claim b (ItemPart line item)) → ReadsOn told name a (item ∷ []) b
item-read told name a b line item part = λ version head limits items read. (part version head limits items None read).4

-- one more cut of a node was read
pub cut-read : (told : Option FileMap) (name : List ℕ) (a b c : LogReader) (cuts : List RowCut) (cut : RowCut) → ReadsOn told name a (map CutItem cuts) b → ReadsOn told name b (CutItem cut ∷ []) c → ReadsOn told name a (map CutItem (cuts ++ cut ∷ [])) c
cut-read told name a b c cuts cut first second =
    subst (λ (its : List RowItem). ReadsOn told name a its c) (sym (map-append CutItem cuts (cut ∷ []))) (reads-then told name a b c (map CutItem cuts) (CutItem cut ∷ []) first second)

-- a node without a found point was read
pub plain-node : (told : Option FileMap) (name : List ℕ) (a b c : LogReader) (cuts : List RowCut) (next : RowItem) (node : Node) → ReadsOn told name a (NodeItem ∷ []) b → ReadsOn told name b (map CutItem cuts ++ next ∷ []) c
    → node.cuts ≡ cuts → node.found ≡ None → item_of node.end ≡ next → ReadsOn told name a (node_items node) c
plain-node told name a b c cuts next node first second cuts_are found_is end_is =
    rw (cuts_are, found_is, end_is) (reads-then told name a b c (NodeItem ∷ []) (map CutItem cuts ++ next ∷ []) first second)

-- a node with a found point was read
pub found-node : (told : Option FileMap) (name : List ℕ) (a b c d : LogReader) (cuts : List RowCut) (found : Found) (next : RowItem) (node : Node) → ReadsOn told name a (NodeItem ∷ []) b → ReadsOn told name b (map CutItem cuts ++ FoundItem found ∷ []) c
    → ReadsOn told name c (next ∷ []) d → node.cuts ≡ cuts → node.found ≡ Some found → item_of node.end ≡ next → ReadsOn told name a (node_items node) d
found-node told name a b c d cuts found next node first second third cuts_are found_is end_is =
    let both = reads-then told name b c d (map CutItem cuts ++ FoundItem found ∷ []) (next ∷ []) second third in
    let own = subst (λ (its : List RowItem). ReadsOn told name b its d) (append_assoc (map CutItem cuts) (FoundItem found ∷ []) (next ∷ [])) both in
    rw (cuts_are, found_is, end_is) (reads-then told name a b d (NodeItem ∷ []) (map CutItem cuts ++ (FoundItem found ∷ next ∷ [])) first own)

-- the items of a node, and of what stands below its end, are those of its tree
pub tree-items : (cuts : List RowCut) (found : Option Found) (end : Ending) (below : Below end)
    → node_items (record { cuts = cuts; found = found; end = end }) ++ below_items end below ≡ tree_items (tree_with cuts found end below)
tree-items cuts found Empty below = append-nil (node_items (record { cuts = cuts; found = found; end = Empty }))
tree-items cuts found (Dual cert) below = append-nil (node_items (record { cuts = cuts; found = found; end = Dual cert }))
tree-items cuts found Point below = append-nil (node_items (record { cuts = cuts; found = found; end = Point }))
tree-items cuts found (Pending cert) below = append-nil (node_items (record { cuts = cuts; found = found; end = Pending cert }))
tree-items cuts found (Split pick cert) below =
    let own : List RowItem = map FoundItem (option_to_list found) in
    let parts : List RowItem = tree_items below.0 ++ tree_items below.1 in
    let last : List RowItem = item_of (Split pick cert) ∷ [] in
    ap (λ (its : List RowItem). NodeItem ∷ its)
    (append_assoc (map CutItem cuts) (own ++ last) parts ∙ ap (λ (its : List RowItem). map CutItem cuts ++ its) (append_assoc own last parts))

-- the same of a node that is there, or none
pub plain-node-if : (told : Option FileMap) (name : List ℕ) (a b c : LogReader) (cuts : List RowCut) (next : RowItem) (node : Option Node) → ReadsOn told name a (NodeItem ∷ []) b → ReadsOn told name b (map CutItem cuts ++ next ∷ []) c
    → IfSome node (λ n. (n.cuts ≡ cuts) × (n.found ≡ None) × (item_of n.end ≡ next)) → IfSome node (λ n. ReadsOn told name a (node_items n) c)
plain-node-if told name a b c cuts next None first second is = tt
plain-node-if told name a b c cuts next (Some node) first second is = plain-node told name a b c cuts next node first second is.0 is.1 is.2

pub found-node-if : (told : Option FileMap) (name : List ℕ) (a b c d : LogReader) (cuts : List RowCut) (found : Found) (next : RowItem) (node : Option Node) → ReadsOn told name a (NodeItem ∷ []) b → ReadsOn told name b (map CutItem cuts ++ FoundItem found ∷ []) c
    → ReadsOn told name c (next ∷ []) d → IfSome node (λ n. (n.cuts ≡ cuts) × (n.found ≡ Some found) × (item_of n.end ≡ next)) → IfSome node (λ n. ReadsOn told name a (node_items n) d)
found-node-if told name a b c d cuts found next None first second third is = tt
found-node-if told name a b c d cuts found next (Some node) first second third is = found-node told name a b c d cuts found next node first second third is.0 is.1 is.2

-- a reader that has read a node reads on
pub reading-on-if : (told : Option FileMap) (name : List ℕ) (a b : LogReader) (node : Option Node) → IsReading told name a → IfSome node (λ n. ReadsOn told name a (node_items n) b) → IfSome node (λ _. IsReading told name b)
reading-on-if told name a b None is on = tt
reading-on-if told name a b (Some node) is on = reading-on told name a b (node_items node) is on

-- what was read behind a node, and behind the first of two proofs, where the files show the same still
pub behind-items : (told now : Option FileMap) (name : List ℕ) (a b c : LogReader) (one : List RowItem) → now ≡ told → ReadsOn told name a one b → (items : List RowItem) → ReadsOn now name b items c → ReadsOn told name a (one ++ items) c
behind-items told now name a b c one same first items second = reads-after told now name a b c one items same first second

pub behind-tree : (told now : Option FileMap) (name : List ℕ) (a b c : LogReader) → now ≡ told → (one two : List RowItem) → ReadsOn told name a one b → ReadsOn now name b two c → ReadsOn told name a (one ++ two) c
behind-tree told now name a b c same one two first second = reads-after told now name a b c one two same first second

-- the claim of a log and its end come behind what was read
clean-some : (told : Option FileMap) (name : List ℕ) (version head own : ℕ) (limits : Limits) (items : List RowItem) (made : Claim) → IfSome told (λ m. IsClean limits (behind version head (file_of m name)) own items made)
    → IfSome told (λ m. (other : ℕ) × ((claim : Claim) × IsClean limits (behind version head (file_of m name)) other items claim))
clean-some None name version head own limits items made clean = tt
clean-some (Some m) name version head own limits items made clean = (own, (made, clean))

pub ends-clean : (told now : Option FileMap) (name : List ℕ) (a b c : LogReader) (line own : ℕ) (made : Claim) → now ≡ told
    → ((version head : ℕ) (limits : Limits) (items : List RowItem) (claim : Option Claim) → HasRead told name version head limits items claim a → IsPartAfter told name version head limits items claim b (ClaimPart line made))
    → ((version head : ℕ) (limits : Limits) (items : List RowItem) (claim : Option Claim) → HasRead now name version head limits items claim b → IsPartAfter now name version head limits items claim c (EndPart own)) → EndsClean told name a
ends-clean told now name a b c line own made same first second = λ version head limits items read.
    let after = (first version head limits items None read).3 in
    let last = subst (λ (files : Option FileMap). HasRead files name version head limits items (Some made) b → IsPartAfter files name version head limits items (Some made) c (EndPart own)) same (second version head limits items (Some made)) after in
    clean-some told name version head own limits items last.1.0 last.1.2

-- ---- what is said of what is there follows from what is said of it

pub ok_some_then : {X E : Type 0} (result : Result (Option X) E) (P Q : X → Type 0) → ((x : X) → P x → Q x) → IfOk result (λ o. IfSome o P) → IfOk result (λ o. IfSome o Q)
ok_some_then (Ok (Some x)) P Q then_ is = then_ x is
ok_some_then (Ok None) P Q then_ is = tt
ok_some_then (Err e) P Q then_ is = tt

pub ok_some_both : {X E : Type 0} (result : Result (Option X) E) (P Q S : X → Type 0) → ((x : X) → P x → Q x → S x) → IfOk result (λ o. IfSome o P) → IfOk result (λ o. IfSome o Q) → IfOk result (λ o. IfSome o S)
ok_some_both (Ok (Some x)) P Q S then_ one other = then_ x one other
ok_some_both (Ok None) P Q S then_ one other = tt
ok_some_both (Err e) P Q S then_ one other = tt

pub some_then : {X : Type 0} (told : Option X) (P Q : X → Type 0) → ((x : X) → P x → Q x) → IfSome told P → IfSome told Q
some_then (Some x) P Q then_ is = then_ x is
some_then None P Q then_ is = tt

pub some_both : {X : Type 0} (told : Option X) (P Q S : X → Type 0) → ((x : X) → P x → Q x → S x) → IfSome told P → IfSome told Q → IfSome told S
some_both (Some x) P Q S then_ one other = then_ x one other
some_both None P Q S then_ one other = tt

pub some_always : {X : Type 0} (told : Option X) (P : Type 0) → P → IfSome told (λ _. P)
some_always (Some x) P is = is
some_always None P is = tt
