-- The log can be walked on, files are only read, and the area stands in the open splits.
use Rattle.std.proofs.Common.{map}
use Rattle.row_relax.specs.View.{view_of}
use Rattle.resumed_log.proofs.OpenSplits.{IsGathering, nodes_from}
use Rattle.resumed_log.proofs.gathering.gather_node.Given as goal

abbrev pub invariant-nodes : goal.invariant-nodes
invariant-nodes g l = IsGathering g.F.Shelf l.initial.walk.pair l.initial.files (map view_of l.initial.area) l.files l.reader l.gathered.going (map view_of l.area) l.splits

abbrev pub decreases-nodes : goal.decreases-nodes
decreases-nodes g l = nodes_from l.initial.walk.pair.most l.depth l.splits
