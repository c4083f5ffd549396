-- What was read of one log, and what is kept of it.
use Rattle.std.proofs.Common.{◌≡◌, ◌∙◌, ℕ, ◌+◌, List, ◌++◌, Option, refl, sym, ap, subst, inl, inr, arith}
use Rattle.std.specs.Prelude.{IfOk, Result, Ok, Err}
use Rattle.stn_edge.specs.Files.{FileMap}
use Rattle.proof_log.specs.declared.log_reader.LogReader.{LogReader}
use Rattle.proof_log.specs.LogNames.{log_name}
use Rattle.proof_tree.specs.declared.capped.Capped.{Capped}
use Rattle.proof_tree.specs.Items.{tree_items}
use Rattle.proof_tree.specs.Views.{View}
use Rattle.row_relax.specs.declared.rows.Rows.{Rows}
use Rattle.row_relax.specs.RowProofs.{RowItem, RowTree}
use Rattle.log_nodes.specs.declared.node.Ending.{Ending}
use Rattle.log_nodes.specs.declared.node.Ending.TheVariants.{Empty, Dual, Point, Pending, Split}
use Rattle.log_nodes.specs.declared.node.Node.{Node}
use Rattle.log_nodes.specs.Reading.{IsReading, ReadsOn}
use Rattle.log_nodes.specs.laws.Nodes.{Below, IsLeafEnd, below_items, node_items}
use Rattle.log_nodes.proofs.Readings.{reads-after}
use Rattle.merged_nodes.specs.declared.looking.Looked.{Looked}
use Rattle.merged_nodes.specs.declared.sources.Source.{Source}
use Rattle.merged_nodes.specs.laws.Looked.{Down, Ends, HasLookedAt, HasReadItems, HasTakenSplit, IsSourceReading, Other, TakesEnd, node_cap}

-- items were read of the file of this name, which is the log's
items-read : (told : Option FileMap) (name stem : List ℕ) (depth : ℕ) (before after : Source) (items : List RowItem) → name ≡ log_name stem before.number → after.number ≡ before.number → after.depth ≡ depth
    → ReadsOn told name before.reader items after.reader → HasReadItems told stem depth before after items
items-read told name stem depth before after items named number stands read = record {
  number = number;
  stands = stands;
  read = subst (λ (n : List ℕ). ReadsOn told n before.reader items after.reader) named read;
}

-- the node of a log was read that ends there
pub looked-end : (rows : Rows) (view : View) (told : Option FileMap) (name stem : List ℕ) (depth : ℕ) (one later : Source) (node : Node) (cap : Capped) (looked new : Looked) → name ≡ log_name stem one.number → one.depth ≡ depth → later.number ≡ one.number
    → later.depth ≡ one.depth → ReadsOn told name one.reader (node_items node) later.reader → IsLeafEnd node.end → cap ≡ node_cap rows view node → TakesEnd looked.end (record { node = node; cap = cap }) new.end → new.split ≡ looked.split
    → HasLookedAt rows view told stem depth one later looked new
looked-end rows view told name stem depth one later node cap looked new named here number stands read leaf is takes split = record {
  stand = Ends node;
  stood = (omega (arith, here), leaf, items-read told name stem depth one later (node_items node) named number (stands ∙ here) read);
  keeps = (subst (λ (c : Capped). TakesEnd looked.end (record { node = node; cap = c }) new.end) is takes, split);
}

-- what stands below an end that splits is two proofs
two-below : (end : Ending) (below : Below end) → ¬ IsLeafEnd end → (first : RowTree) × ((second : RowTree) × (below_items end below ≡ tree_items first ++ tree_items second))
two-below (Split pick cert) below not = (below.0, (below.1, refl))
two-below Empty below not = absurd (not tt)
two-below (Dual cert) below not = absurd (not tt)
two-below Point below not = absurd (not tt)
two-below (Pending cert) below not = absurd (not tt)

-- the node of a log was read that splits there, and it went down, or what stands below was read too
pub looked-split : (rows : Rows) (view : View) (told now : Option FileMap) (name stem : List ℕ) (depth : ℕ) (one mid later : Source) (node : Node) (looked new : Looked) → name ≡ log_name stem one.number → one.depth ≡ depth → mid.number ≡ one.number
    → mid.depth ≡ one.depth → now ≡ told → ReadsOn told name one.reader (node_items node) mid.reader → ¬ IsLeafEnd node.end → HasTakenSplit now name depth node mid later looked new → HasLookedAt rows view told stem depth one later looked new
looked-split rows view told now name stem depth one mid later node looked new named here number stands same read not (inl down) = record {
  stand = Down node;
  stood = (omega (arith, here), not, items-read told name stem (depth + 1) one later (node_items node) named (down.1 ∙ number) down.2 (subst (λ (r : LogReader). ReadsOn told name one.reader (node_items node) r) (sym down.3) read));
  keeps = (down.0, down.4, down.5);
}
looked-split rows view told now name stem depth one mid later node looked new named here number stands same read not (inr past) =
    let below = past.3.0 in
    let two = two-below node.end below not in
    let all : ReadsOn told name one.reader (node_items node ++ below_items node.end below) later.reader = reads-after told now name one.reader mid.reader later.reader (node_items node) (below_items node.end below) same read past.3.1 in
    let parts : ReadsOn told name one.reader (node_items node ++ (tree_items two.0 ++ tree_items two.1.0)) later.reader =
    subst (λ (items : List RowItem). ReadsOn told name one.reader (node_items node ++ items) later.reader) two.1.1 all in
    record {
      stand = Other node two.0 two.1.0;
      stood = (omega (arith, here), not, items-read told name stem depth one later (node_items node ++ (tree_items two.0 ++ tree_items two.1.0)) named (past.1 ∙ number) (past.2 ∙ (stands ∙ here)) parts);
      keeps = (past.0, past.4);
    }

-- a reader of the file of this name reads on in the log
pub reading-later : (told now : Option FileMap) (name stem : List ℕ) (one later : Source) → now ≡ told → name ≡ log_name stem one.number → later.number ≡ one.number → IsReading now name later.reader → IsSourceReading told stem later
reading-later told now name stem one later same named number reading =
    subst (λ (n : List ℕ). IsReading told n later.reader) (named ∙ ap (log_name stem) (sym number)) (subst (λ (files : Option FileMap). IsReading files name later.reader) same reading)

-- ---- what is said of an answer follows from what is said of it

pub ok-then : {X E : Type 0} (result : Result X E) (P Q : X → Type 0) → ((x : X) → P x → Q x) → IfOk result P → IfOk result Q
ok-then (Ok x) P Q then_ is = then_ x is
ok-then (Err e) P Q then_ is = tt

pub ok-both : {X E : Type 0} (result : Result X E) (P Q S : X → Type 0) → ((x : X) → P x → Q x → S x) → IfOk result P → IfOk result Q → IfOk result S
ok-both (Ok x) P Q S then_ one other = then_ x one other
ok-both (Err e) P Q S then_ one other = tt

-- the number of a log stays, however its split is taken
pub taken-number : (told : Option FileMap) (name : List ℕ) (depth : ℕ) (node : Node) (before after : Source) (old new : Looked) → HasTakenSplit told name depth node before after old new → after.number ≡ before.number
taken-number told name depth node before after old new (inl down) = down.1
taken-number told name depth node before after old new (inr past) = past.1
