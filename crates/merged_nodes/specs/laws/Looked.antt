-- What the logs have at a node of the merged proof, as far as they were read. Only clauses of what merges cite it.
use Rattle.std.specs.Prelude.{◌≡◌, ◌≢◌, ◌⊎◌, ◌≤◌, ◌<◌, ◌+◌, ℕ, Bool, true, false, IsTrue, ⊤, All, List, ◌++◌, length, slice_get, Option, Some, None, IfSome, unwrap_or}
use Rattle.stn_edge.specs.Files.{FileMap}
use Rattle.proof_log.specs.LogNames.{log_name}
use Rattle.proof_tree.specs.declared.capped.Capped.{Capped}
use Rattle.proof_tree.specs.Items.{tree_items}
use Rattle.proof_tree.specs.Tree.{leaf, tree_cap}
use Rattle.proof_tree.specs.Views.{View}
use Rattle.row_relax.specs.declared.rows.Rows.{Rows}
use Rattle.row_relax.specs.Choices.{steps_of}
use Rattle.row_relax.specs.RowProofs.{RowItem, RowTree}
use Rattle.log_nodes.specs.declared.node.Ending.{Ending}
use Rattle.log_nodes.specs.declared.node.Node.{Node}
use Rattle.log_nodes.specs.Reading.{IsReading, ReadsOn}
use Rattle.log_nodes.specs.laws.Nodes.{Below, IsLeafEnd, below_items, leaf_of, node_items}
use Rattle.merged_nodes.specs.declared.looking.Capping.{Capping}
use Rattle.merged_nodes.specs.declared.looking.Looked.{Looked}
use Rattle.merged_nodes.specs.declared.sources.Source.{Source}
use Rattle.merged_nodes.specs.Merged.{is_smaller}

-- the log of a stem may be read
abbrev pub MayRead : (List ℕ → Bool) → List ℕ → Source → Type 0
MayRead may_read stem source = IsTrue (may_read (log_name stem source.number))

-- all of these logs may be read
abbrev pub MayReadAll : (List ℕ → Bool) → List ℕ → List Source → Type 0
MayReadAll may_read stem sources = All (MayRead may_read stem) sources

-- a log reads items of its proof
abbrev pub IsSourceReading : Option FileMap → List ℕ → Source → Type 0
IsSourceReading told stem source = IsReading told (log_name stem source.number) source.reader

-- all of these logs read items of their proofs
abbrev pub AreReading : Option FileMap → List ℕ → List Source → Type 0
AreReading told stem sources = All (IsSourceReading told stem) sources

-- a file is none of these logs
abbrev pub AreApart : List ℕ → List ℕ → List Source → Type 0
AreApart name stem sources = All (λ source. name ≢ log_name stem source.number) sources

-- how a log stands at a node: it did not come down there; it ends there; it splits there as the first one does; or it splits there otherwise,
-- and what stands below was read
pub data Stand : Type 0 where
  Away : Stand
  Ends : (node : Node) → Stand
  Down : (node : Node) → Stand
  Other : (node : Node) (first second : RowTree) → Stand

-- items were read of a log, which stands then below so many splits
pub record HasReadItems (told : Option FileMap) (stem : List ℕ) (depth : ℕ) (before after : Source) (items : List RowItem) : Type 0 where
  pub number : after.number ≡ before.number
  pub stands : after.depth ≡ depth
  pub read : ReadsOn told (log_name stem before.number) before.reader items after.reader

-- a log was read to where it stands at a node below so many splits
abbrev pub HasStood : Option FileMap → List ℕ → ℕ → Source → Source → Stand → Type 0
HasStood told stem depth before after Away = (before.depth < depth) × (after ≡ before)
HasStood told stem depth before after (Ends node) = (depth ≤ before.depth) × IsLeafEnd node.end × HasReadItems told stem depth before after (node_items node)
HasStood told stem depth before after (Down node) = (depth ≤ before.depth) × (¬ IsLeafEnd node.end) × HasReadItems told stem (depth + 1) before after (node_items node)
HasStood told stem depth before after (Other node first second) =
    (depth ≤ before.depth) × (¬ IsLeafEnd node.end) × HasReadItems told stem depth before after (node_items node ++ (tree_items first ++ tree_items second))

-- all logs were read to where they stand
pub record HaveStood (told : Option FileMap) (stem : List ℕ) (depth : ℕ) (before after : List Source) (stands : List Stand) : Type 0 where
  pub as_many : length after ≡ length before
  pub all : length stands ≡ length before
  pub each : (place : ℕ) (one later : Source) (stand : Stand) → slice_get before place ≡ Some one → slice_get after place ≡ Some later → slice_get stands place ≡ Some stand → HasStood told stem depth one later stand

-- the node with which a log ends where it stands, if it does
abbrev pub ended : Option Stand → Option Node
ended None = None
ended (Some Away) = None
ended (Some (Ends node)) = Some node
ended (Some (Down node)) = None
ended (Some (Other node first second)) = None

-- the node at which it splits, if it does
abbrev pub parted : Option Stand → Option Node
parted None = None
parted (Some Away) = None
parted (Some (Ends node)) = None
parted (Some (Down node)) = Some node
parted (Some (Other node first second)) = Some node

-- the cap of a node that splits nothing, over a view
abbrev pub node_cap : Rows → View → Node → Capped
node_cap rows view node = tree_cap (steps_of rows) view (leaf node.cuts node.found (leaf_of node.end))

-- an end is the one of the smallest cap among those of the logs, and the first of equals; or none ends
abbrev pub IsLeast : Rows → View → List Stand → Option Capping → Type 0
IsLeast rows view stands None = (place : ℕ) → ended (slice_get stands place) ≡ None
IsLeast rows view stands (Some end) =
    (place : ℕ) × ((ended (slice_get stands place) ≡ Some end.node) × (end.cap ≡ node_cap rows view end.node)
    × ((other : ℕ) → IfSome (ended (slice_get stands other)) (λ node. is_smaller (node_cap rows view node) end.cap ≡ false))
    × ((other : ℕ) → other < place → IfSome (ended (slice_get stands other)) (λ node. is_smaller end.cap (node_cap rows view node) ≡ true)))

-- two nodes split in the same way: they have the same cuts and the same end
abbrev pub IsSameSplit : Node → Node → Type 0
IsSameSplit one other = (one.cuts ≡ other.cuts) × (one.end ≡ other.end)

-- a log splits as a node does, or otherwise, as it stands
abbrev pub SplitsLike : Node → Stand → Type 0
SplitsLike node Away = ⊤
SplitsLike node (Ends own) = ⊤
SplitsLike node (Down own) = IsSameSplit node own
SplitsLike node (Other own first second) = ¬ IsSameSplit node own

-- a node is that of the first log that splits, and the others split as it does or otherwise; or none splits
abbrev pub IsFirst : List Stand → Option Node → Type 0
IsFirst stands None = (place : ℕ) → parted (slice_get stands place) ≡ None
IsFirst stands (Some node) =
    (place : ℕ) × ((slice_get stands place ≡ Some (Down node)) × ((other : ℕ) → other < place → parted (slice_get stands other) ≡ None) × All (SplitsLike node) stands)

-- all logs were looked at at a node below so many splits, over a view
pub record HasLooked (rows : Rows) (view : View) (told : Option FileMap) (stem : List ℕ) (depth : ℕ) (before after : List Source) (looked : Looked) : Type 0 where
  pub stands : List Stand
  pub stood : HaveStood told stem depth before after stands
  pub end : IsLeast rows view stands looked.end
  pub split : IsFirst stands looked.split

-- an end is kept, where its cap is smaller than that of the one that is kept
abbrev pub TakesEnd : Option Capping → Capping → Option Capping → Type 0
TakesEnd None end kept = kept ≡ Some end
TakesEnd (Some own) end kept =
    ((is_smaller end.cap own.cap ≡ true) × (kept ≡ Some end)) ⊎ ((is_smaller end.cap own.cap ≡ false) × (kept ≡ Some own))

-- a node that splits goes down with the first that does: it is that one, or splits in the same way
abbrev pub GoesWith : Option Node → Node → Type 0
GoesWith None node = ⊤
GoesWith (Some first) node = IsSameSplit first node

-- a node that splits, which was read of a log, goes down with the first that does; or what stands below was read too
abbrev pub HasTakenSplit : Option FileMap → List ℕ → ℕ → Node → Source → Source → Looked → Looked → Type 0
HasTakenSplit told name depth node before after old new =
    (GoesWith old.split node × (after.number ≡ before.number) × (after.depth ≡ depth + 1) × (after.reader ≡ before.reader) × (new.split ≡ Some (unwrap_or old.split node)) × (new.end ≡ old.end))
    ⊎ ((¬ GoesWith old.split node) × (after.number ≡ before.number) × (after.depth ≡ before.depth) × ((below : Below node.end) × ReadsOn told name before.reader (below_items node.end below) after.reader) × (new ≡ old))

-- what is kept of a log that stands so
abbrev pub KeepsLooked : Rows → View → Looked → Stand → Looked → Type 0
KeepsLooked rows view old Away new = new ≡ old
KeepsLooked rows view old (Ends node) new = TakesEnd old.end (record { node = node; cap = node_cap rows view node }) new.end × (new.split ≡ old.split)
KeepsLooked rows view old (Down node) new = GoesWith old.split node × (new.split ≡ Some (unwrap_or old.split node)) × (new.end ≡ old.end)
KeepsLooked rows view old (Other node first second) new = (¬ GoesWith old.split node) × (new ≡ old)

-- one log was looked at that came down
pub record HasLookedAt (rows : Rows) (view : View) (told : Option FileMap) (stem : List ℕ) (depth : ℕ) (before after : Source) (old new : Looked) : Type 0 where
  pub stand : Stand
  pub stood : HasStood told stem depth before after stand
  pub keeps : KeepsLooked rows view old stand new

-- what stands below a split of this end was read of a log that went down there; else nothing was
abbrev pub HasPassed : Option FileMap → List ℕ → Ending → ℕ → Source → Source → Type 0
HasPassed told stem end depth before after =
    ((before.depth ≤ depth) × (after ≡ before)) ⊎ ((depth < before.depth) × ((below : Below end) × HasReadItems told stem depth before after (below_items end below)))

-- the same of all logs
pub record HavePassed (told : Option FileMap) (stem : List ℕ) (end : Ending) (depth : ℕ) (before after : List Source) : Type 0 where
  pub as_many : length after ≡ length before
  pub each : (place : ℕ) (one later : Source) → slice_get before place ≡ Some one → slice_get after place ≡ Some later → HasPassed told stem end depth one later
