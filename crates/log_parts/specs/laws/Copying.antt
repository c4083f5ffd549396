-- Logs whose items are copied to another log.
use Rattle.std.specs.Prelude.{◌≡◌, ◌⊎◌, ⊤, ℕ, ◌^◌, ◌<◌, List, [], ◌∷◌, ◌++◌, flat_map, slice_index_or, drop, string_bytes, Option, None, IfSome}
use Rattle.std.specs.Option.{option_map}
use Rattle.stn_edge.specs.Files.{FileMap, file_of}
use Rattle.stn_model.specs.declared.plant.Plant.{Plant}
use Rattle.std.specs.List.{All}
use Rattle.row_kit.specs.declared.program.Program.{Program}
use Rattle.row_kit.specs.Point.{IsLawful}
use Rattle.row_set.specs.PlantProgram.{IsMadeOf, plant_root}
use Rattle.sum_slots.specs.declared.sum.Sum.{Sum}
use Rattle.sum_slots.specs.Shown.{IsShown}
use Rattle.proof_tree.specs.declared.item.Item.TheVariants.{Node, Split}
use Rattle.proof_tree.specs.Items.{tree_items}
use Rattle.row_relax.specs.RowProofs.{RowItem, RowTree}
use Rattle.log_lines.specs.declared.grammar.Limits.{Limits}
use Rattle.log_lines.specs.declared.line.Line.TheVariants.{End}
use Rattle.log_lines.specs.TextDefect.{log_text_defect}
use Rattle.proof_log.specs.declared.claim.Claim.{Claim}
use Rattle.proof_log.specs.declared.writer.LogWriter.{LogWriter}
use Rattle.proof_log.specs.Behind.{behind}
use Rattle.proof_log.specs.Log.{claim_lines, item_lines, lines_text, log_text}
use Rattle.proof_log.specs.OneText.{IsLogOver}
use Rattle.log_parts.specs.declared.joins.Joined.{Joined}
use Rattle.log_parts.specs.declared.joins.Joined.TheVariants.{Done, No}
use Rattle.log_parts.specs.Joining.{plan_of}
use Rattle.log_parts.specs.PartLogs.{logs_of, no_mults, no_tree, tree_over}

-- the point of a claim, where it has one, is lawful
abbrev pub IsPointed : Program → Claim → Type 0
IsPointed program claim = IfSome (plan_of claim) (λ plan. IsLawful program plan.point)

-- sums are shown over the plant's program, and the point of a claim is lawful there
abbrev pub IsFit : Plant → List Sum → Claim → Type 0
IsFit plant sums claim = (program : Program) → IsMadeOf plant program → All (IsShown program (plant_root plant)) sums × IsPointed program claim

-- the name of the file that a writer writes
abbrev pub name_of : LogWriter → List ℕ
name_of writer = string_bytes writer.name

-- the text of a log's front and of items
abbrev pub begun_text : List ℕ → List RowItem → List ℕ
begun_text front items = front ++ lines_text (flat_map item_lines items)

-- the text of a log's front, of items and of a claim, and the end
abbrev pub whole_text : List ℕ → List RowItem → Claim → List ℕ
whole_text front items claim = front ++ lines_text (flat_map item_lines items ++ (claim_lines claim ++ End ∷ []))

-- the file of a writer and what it holds back are the front of a log and these items, where the files are told
abbrev pub HasItems : List ℕ → LogWriter → Option FileMap → List RowItem → Type 0
HasItems front writer files items = IfSome (option_map (λ m. file_of m (name_of writer) ++ writer.buffer.items) files) (λ all. all ≡ begun_text front items)

-- the file of this name is a first part of the front of a log and these items, where the files are told
abbrev pub IsBegun : List ℕ → List ℕ → Option FileMap → List RowItem → Type 0
IsBegun front name files items = IfSome files (λ m. (rest : List ℕ) × (file_of m name ++ rest ≡ begun_text front items))

-- the bytes are the text of a log of this tree, without a text defect under the limits
pub record IsLogOf (limits : Limits) (bytes : List ℕ) (tree : RowTree) : Type 0 where
  pub version : ℕ
  pub claim : Claim
  pub text : bytes ≡ log_text version (tree_items tree) claim
  pub over : IsLogOver limits.points version tree claim
  pub clean : log_text_defect limits bytes ≡ None

-- the logs are those of these trees
abbrev pub AreLogsOf : Limits → ℕ → (ℕ → List ℕ) → List RowTree → Type 0
AreLogsOf limits count logs trees = (part : ℕ) → part < count → IsLogOf limits (logs part) (slice_index_or trees part no_tree)

-- the logs of a stem behind their heads, of so many bytes each, as logs of version 4, which have the lines of all others
abbrev pub bodies_of : FileMap → List ℕ → List ℕ → ℕ → List ℕ
bodies_of files stem heads part = behind 4 (slice_index_or heads part 0) (logs_of files stem part)

-- where the file is told and behind its head is a log of a tree, nothing was found in it, and a writer that had some items has those of the tree too
abbrev pub HasCopied : Limits → ℕ → List ℕ → Option FileMap → LogWriter → Option FileMap → LogWriter → {D : Type 0} → Option D → Type 0
HasCopied limits head name old writer new later found =
    IfSome old (λ m. (tree : RowTree) → IsLogOf limits (behind 4 head (file_of m name)) tree → (front : List ℕ) (items : List RowItem) → HasItems front writer old items
    → (found ≡ None) × HasItems front later new (items ++ tree_items tree))

-- where the file is told and behind its head is a log of a tree, a first part of the items that a writer had and of those of the tree was written
abbrev pub HasBrokenOff : Limits → ℕ → List ℕ → Option FileMap → LogWriter → Option FileMap → Type 0
HasBrokenOff limits head name old writer new =
    IfSome old (λ m. (tree : RowTree) → IsLogOf limits (behind 4 head (file_of m name)) tree → (front : List ℕ) (items : List RowItem) → HasItems front writer old items
    → IsBegun front (name_of writer) new (items ++ tree_items tree))

-- the node of a split of a slot at 0
abbrev pub opening_split : ℕ → RowItem
opening_split slot = Split (record { slot = slot; max = 0; floor = None }) no_mults

-- the items of such a node
abbrev pub split_items : ℕ → List RowItem
split_items slot = Node ∷ opening_split slot ∷ []

-- the items of the tree over the slots from one on, so many, in which the trees from one on stand
abbrev pub items_over : ℕ → ℕ → ℕ → List RowTree → List RowItem
items_over slot levels part trees = tree_items (tree_over slot levels (drop part trees))

-- the same of the logs of so many parts, and of the tree over slots in which their trees from one on stand
abbrev pub HasJoined : Limits → ℕ → List ℕ → List ℕ → (List RowTree → List RowItem) → Option FileMap → LogWriter → Option FileMap → LogWriter → {D : Type 0} → Option D → Type 0
HasJoined limits count stem heads added old writer new later found =
    IfSome old (λ m. (trees : List RowTree) → AreLogsOf limits count (bodies_of m stem heads) trees → (front : List ℕ) (items : List RowItem) → HasItems front writer old items
    → (found ≡ None) × HasItems front later new (items ++ added trees))

-- and where that broke off
abbrev pub HasJoinBroken : Limits → ℕ → List ℕ → List ℕ → (List RowTree → List RowItem) → Option FileMap → LogWriter → Option FileMap → Type 0
HasJoinBroken limits count stem heads added old writer new =
    IfSome old (λ m. (trees : List RowTree) → AreLogsOf limits count (bodies_of m stem heads) trees → (front : List ℕ) (items : List RowItem) → HasItems front writer old items
    → IsBegun front (name_of writer) new (items ++ added trees))

-- the file of this name is the text of this front, these items and this claim, where the files are told
abbrev pub IsFinished : List ℕ → List ℕ → List RowItem → Claim → Option FileMap → Type 0
IsFinished front name items claim files = IfSome files (λ m. file_of m name ≡ whole_text front items claim)

-- the file of this name is a first part of that text, where the files are told
abbrev pub IsFinishedInPart : List ℕ → List ℕ → List RowItem → Claim → Option FileMap → Type 0
IsFinishedInPart front name items claim files = IfSome files (λ m. (rest : List ℕ) × (file_of m name ++ rest ≡ whole_text front items claim))

-- the text of the joined log of these trees, with a front and a claim
abbrev pub joined_text : List ℕ → ℕ → List RowTree → Claim → List ℕ
joined_text front levels trees claim = whole_text front (tree_items (tree_over 0 levels trees)) claim

-- where the files are told and behind their heads are the logs of trees, the larger claim was written behind these trees, and the claim is the answer
abbrev pub HasWritten : Limits → ℕ → List ℕ → List ℕ → List ℕ → List ℕ → Claim → Claim → Option FileMap → Option FileMap → Joined → Type 0
HasWritten limits levels stem heads name front larger claim old new said =
    IfSome old (λ m. (trees : List RowTree) → AreLogsOf limits (2 ^ levels) (bodies_of m stem heads) trees
    → (said ≡ Done claim) × IfSome new (λ n. file_of n name ≡ joined_text front levels trees larger))

-- where the files are told and behind their heads are the logs of trees, they are as they were, or the file holds a first part of the joined text
abbrev pub HasLeft : Limits → ℕ → List ℕ → List ℕ → List ℕ → List ℕ → Claim → Option FileMap → Option FileMap → Type 0
HasLeft limits levels stem heads name front larger old new =
    IfSome old (λ m. (trees : List RowTree) → AreLogsOf limits (2 ^ levels) (bodies_of m stem heads) trees
    → (new ≡ old) ⊎ IfSome new (λ n. (rest : List ℕ) × (file_of n name ++ rest ≡ joined_text front levels trees larger)))

-- a joined claim is this one
abbrev pub IsClaim : Claim → Joined → Type 0
IsClaim claim (Done own) = own ≡ claim
IsClaim claim (No part defect) = ⊤
