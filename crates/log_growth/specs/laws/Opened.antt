-- The walk down two proofs that are read side by side. Only clauses of private functions cite it.
use Rattle.std.specs.Prelude.{◌+◌, ℕ, if◌then◌else◌, List, Option, Some, None}
use Rattle.stn_edge.specs.Files.{FileMap}
use Rattle.proof_tree.specs.Views.{View, present}
use Rattle.log_nodes.specs.declared.node.Node.{Node}
use Rattle.log_nodes.specs.declared.pair.Pair.{Pair}
use Rattle.log_nodes.specs.Reading.{ReadsOn}
use Rattle.open_splits.specs.declared.splits.OpenSplit.{OpenSplit}
use Rattle.open_splits.specs.laws.Behind.{Course, HasSplit, Reaches}
use Rattle.log_growth.specs.declared.counts.Growth.{Growth}
use Rattle.log_growth.specs.declared.way.Kept.{Kept}
use Rattle.log_growth.specs.declared.way.Place.{Place}
use Rattle.log_growth.specs.declared.way.Readers.{Readers}
use Rattle.log_growth.specs.laws.Counts.{IsSplitSum}
use Rattle.log_growth.specs.laws.Grown.{HasGrown, HasGrownNode}

-- from one place of two logs to another their proofs over a view were read, and the second goes on from the first
abbrev pub Grows : Pair → Option FileMap → Place → View → Readers → Reaches Readers Growth
Grows pair told place view here later growth =
    HasGrown pair.most pair.rows.now pair.profit pair.share place.depth place.number view (λ items. ReadsOn told pair.log.now here.log items later.log) (λ items. ReadsOn told pair.out.now here.out items later.out) growth

-- so of two nodes and what stands below them
abbrev pub GrowsNode : Pair → Option FileMap → Place → View → Node → Node → Readers → Reaches Readers Growth
GrowsNode pair told place view node other here later growth =
    HasGrownNode pair.most pair.rows.now pair.profit pair.share place.depth place.number view node other (λ items. ReadsOn told pair.log.now here.log items later.log) (λ items. ReadsOn told pair.out.now here.out items later.out) growth

-- one, where the floor of a split is above the profit
abbrev pub floors_of : Kept → ℕ
floors_of kept = if kept.above then 1 else 0

-- the place of the left part of a split, and of its right part behind the open ends of the left one
abbrev pub part_of : OpenSplit Kept Growth → Option Growth → Place
part_of split None = record { depth = split.below; number = split.kept.number }
part_of split (Some left) = record { depth = split.below; number = split.kept.number + left.ends }

-- the walk down two proofs that are read side by side
abbrev pub growing : Pair → Option FileMap → Course Place Readers Kept Growth
growing pair told = record { passes = Grows pair told; part_at = part_of; sums = λ kept. IsSplitSum (floors_of kept) }

-- a split of two nodes was opened, whatever is read behind them
abbrev pub HasOpenedSplit : Pair → Place → Node → Node → List View → List View → OpenSplit Kept Growth → Type 0
HasOpenedSplit pair place node other old new split =
    (told : Option FileMap) (here : Readers) → HasSplit pair.rows.now.program (growing pair told) pair.most place.depth old new here split (GrowsNode pair told place (present old) node other here)
