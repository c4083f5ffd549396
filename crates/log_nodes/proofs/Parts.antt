-- Parts of splits that are left to read, and what they make whole once they are read.
use Rattle.std.proofs.Common.{◌≡◌, ◌∙◌, ℕ, zero, suc, ◌+◌, ◌-◌, ◌<◌, List, [], ◌∷◌, ◌++◌, refl, sym, ap, subst, arith, append_assoc, append-nil}
use Rattle.stn_edge.specs.Files.{FileMap}
use Rattle.std.proofs.Common.{Option, None, Some}
use Rattle.std.specs.Prelude.{MatchOption}
use Rattle.proof_log.specs.declared.log_reader.LogReader.{LogReader}
use Rattle.proof_tree.specs.Items.{tree_items}
use Rattle.proof_tree.specs.Nodes.{counted}
use Rattle.row_relax.specs.RowProofs.{RowItem, RowTree}
use Rattle.log_nodes.specs.declared.node.Node.{Node}
use Rattle.log_nodes.specs.declared.node.Ending.{Ending}
use Rattle.log_nodes.specs.declared.node.Ending.TheVariants.{Empty, Dual, Point, Pending, Split}
use Rattle.log_nodes.specs.Reading.{ReadsOn}
use Rattle.log_nodes.specs.laws.Nodes.{Below, HasBelow, below_items, counted_with, node_items, tree_with}
use Rattle.log_nodes.specs.laws.Parts.{HasTrees, boxes_at, parts_of}
use Rattle.log_nodes.proofs.Readings.{reads-none, reads-then, tree-items}
use Rattle.log_nodes.proofs.Skipped.{counted-tree}

-- ---- how many nodes may be left

-- of a proof in which so many may stand one below another
pub nodes_in : ℕ → ℕ
nodes_in zero = 1
nodes_in (suc room) = 1 + (nodes_in room + nodes_in room)

-- of all that are left
pub nodes_left : List ℕ → ℕ
nodes_left [] = 0
nodes_left (room ∷ rooms) = nodes_in room + nodes_left rooms

room-more : (room : ℕ) → 0 < room → nodes_in room ≡ 1 + (nodes_in (room - 1) + nodes_in (room - 1))
unfolding nodes_in
room-more room some = ap nodes_in is
  where
    is : room ≡ suc (room - 1)
    is = omega (arith, some)

-- a node leaves fewer than stood there with it
parts-fewer : (end : Ending) (below room : ℕ) (rest : List ℕ) → nodes_in room ≡ 1 + (nodes_in below + nodes_in below) → nodes_left (parts_of end below ++ rest) < nodes_left (room ∷ rest)
unfolding nodes_left
parts-fewer Empty below room rest more = omega (arith, more)
parts-fewer (Dual cert) below room rest more = omega (arith, more)
parts-fewer Point below room rest more = omega (arith, more)
parts-fewer (Pending cert) below room rest more = omega (arith, more)
parts-fewer (Split pick cert) below room rest more = omega (arith, more)

pub node-fewer : (end : Ending) (room : ℕ) (rest before after : List ℕ) → 0 < room → before ≡ room ∷ rest → after ≡ parts_of end (room - 1) ++ rest → nodes_left after < nodes_left before
node-fewer end room rest before after some top left =
    omega (arith, parts-fewer end (room - 1) room rest (room-more room some), ap nodes_left top, ap nodes_left left)

-- ---- what was read

-- what is said of the items that follow may be said otherwise
trees-then : (rooms : List ℕ) (P Q : List RowItem → Type 0) (boxes : ℕ) → ((items : List RowItem) → P items → Q items) → HasTrees rooms P boxes → HasTrees rooms Q boxes
trees-then [] P Q boxes follows has = (follows [] has.0, has.1)
trees-then (room ∷ rooms) P Q boxes follows has =
    (has.0, (has.1.0, (has.1.1.0, trees-then rooms (λ items. P (tree_items has.0 ++ items)) (λ items. Q (tree_items has.0 ++ items)) has.1.0 (λ items. follows (tree_items has.0 ++ items)) has.1.1.1)))

-- what stands below an end was read, and then the other parts that are left
pub record HasParts (end : Ending) (rest : List ℕ) (P : List RowItem → Type 0) (boxes : ℕ) : Type 0 where
  pub below : Below end
  pub more : ℕ
  pub counts : boxes_at end + boxes ≡ counted_with end below + more
  pub trees : HasTrees rest (λ items. P (below_items end below ++ items)) more

parts-read : (end : Ending) (room : ℕ) (rest : List ℕ) (P : List RowItem → Type 0) (boxes : ℕ) → HasTrees (parts_of end room ++ rest) P boxes → HasParts end rest P boxes
parts-read Empty room rest P boxes has = record { below = tt; more = boxes; counts = refl; trees = has }
parts-read (Dual cert) room rest P boxes has = record { below = tt; more = boxes; counts = refl; trees = has }
parts-read Point room rest P boxes has = record { below = tt; more = boxes; counts = refl; trees = has }
parts-read (Pending cert) room rest P boxes has = record { below = tt; more = boxes; counts = refl; trees = has }
parts-read (Split pick cert) room rest P boxes has =
    let first = has.0 in
    let second = has.1.1.1.0 in
    let left = has.1.1.1.1.0 in
    let one : boxes ≡ counted first + has.1.0 = has.1.1.0 in
    let two : has.1.0 ≡ counted second + left = has.1.1.1.1.1.0 in
    record {
      below = (first, second);
      more = left;
      counts = omega (arith, one, two);
      trees = trees-then rest (λ items. P (tree_items first ++ (tree_items second ++ items))) (λ items. P ((tree_items first ++ tree_items second) ++ items)) left
          (λ items. subst P (sym (append_assoc (tree_items first) (tree_items second) items))) has.1.1.1.1.1.1;
    }

-- what is left to read below an end: once it is read, with so many boxes, that is all that stands below it
abbrev pub Owes : Option FileMap → List ℕ → LogReader → Ending → LogReader → ℕ → List ℕ → Type 0
Owes told name begun end here count rooms = (later : LogReader) (more : ℕ) → HasTrees rooms (λ items. ReadsOn told name here items later) more → HasBelow (λ items. ReadsOn told name begun items later) end (count + more)

-- at first all of it
pub owes-first : (told : Option FileMap) (name : List ℕ) (a : LogReader) (end : Ending) (room count : ℕ) (rooms : List ℕ) → rooms ≡ parts_of end room ++ [] → count ≡ boxes_at end → Owes told name a end a count rooms
owes-first told name a end room count rooms are is = λ later more has.
    let parts = parts-read end room [] (λ items. ReadsOn told name a items later) more (subst (λ (own : List ℕ). HasTrees own (λ items. ReadsOn told name a items later) more) are has) in
    record {
      below = parts.below;
      read = subst (λ (items : List RowItem). ReadsOn told name a items later) (append-nil (below_items end parts.below)) parts.trees.0;
      counts = omega (arith, is, parts.counts, parts.trees.1);
    }

-- behind a node what stands below it, and the rest
pub owes-next : (told : Option FileMap) (name : List ℕ) (begun a b : LogReader) (end : Ending) (node : Node) (room below count counts : ℕ) (rest rooms parts : List ℕ) → rooms ≡ room ∷ rest → parts ≡ parts_of node.end below ++ rest → counts ≡ count + boxes_at node.end
    → ReadsOn told name a (node_items node) b → Owes told name begun end a count rooms → Owes told name begun end b counts parts
owes-next told name begun a b end node room below count counts rest rooms parts top are sum read owes = λ later more has.
    let own = parts-read node.end below rest (λ items. ReadsOn told name b items later) more (subst (λ (all : List ℕ). HasTrees all (λ items. ReadsOn told name b items later) more) are has) in
    let tree : RowTree = tree_with node.cuts node.found node.end own.below in
    let counted_is : counted tree ≡ counted_with node.end own.below = counted-tree node.cuts node.found node.end own.below in
    let behind : HasTrees rest (λ items. ReadsOn told name a (tree_items tree ++ items) later) own.more =
    trees-then rest (λ items. ReadsOn told name b (below_items node.end own.below ++ items) later) (λ items. ReadsOn told name a (tree_items tree ++ items) later) own.more
    (λ items further. subst (λ (all : List RowItem). ReadsOn told name a all later)
    (sym (append_assoc (node_items node) (below_items node.end own.below) items) ∙ ap (λ (all : List RowItem). all ++ items) (tree-items node.cuts node.found node.end own.below))
    (reads-then told name a b later (node_items node) (below_items node.end own.below ++ items) read further)) own.trees in
    let whole : HasTrees rooms (λ items. ReadsOn told name a items later) (boxes_at node.end + more) =
    subst (λ (all : List ℕ). HasTrees all (λ items. ReadsOn told name a items later) (boxes_at node.end + more)) (sym top) (tree, (own.more, (own.counts ∙ ap (λ (n : ℕ). n + own.more) (sym counted_is), behind))) in
    let same : counts + more ≡ count + (boxes_at node.end + more) = omega (arith, sum) in
    subst (HasBelow (λ items. ReadsOn told name begun items later) end) (sym same) (owes later (boxes_at node.end + more) whole)

-- at last nothing
pub owes-none : (told : Option FileMap) (name : List ℕ) (begun here : LogReader) (end : Ending) (count : ℕ) (rooms : List ℕ) → rooms ≡ [] → Owes told name begun end here count rooms → HasBelow (λ items. ReadsOn told name begun items here) end count
owes-none told name begun here end count rooms none owes =
    let same : count + 0 ≡ count = omega arith in
    subst (HasBelow (λ items. ReadsOn told name begun items here) end) same
    (owes here 0 (subst (λ (all : List ℕ). HasTrees all (λ items. ReadsOn told name here items here) 0) (sym none) (reads-none told name here, refl)))

-- where no other part is on top, none is left
pub none-left : {X N : Type 0} (top : Option X) (S : X → Type 0) → MatchOption top N S → ((x : X) → top ≡ Some x → ⊥) → N
none-left None S is other = is
none-left (Some x) S is other = absurd (other x refl)
