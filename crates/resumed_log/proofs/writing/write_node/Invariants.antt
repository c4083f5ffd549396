-- The old log can be walked on and the new one written, and the area stands in the open splits.
use Rattle.std.proofs.Common.{map}
use Rattle.row_relax.specs.View.{view_of}
use Rattle.resumed_log.specs.laws.Beside.{out_name}
use Rattle.resumed_log.proofs.OpenSplits.{IsWriting, nodes_from}
use Rattle.resumed_log.proofs.writing.write_node.Given as goal

abbrev pub invariant-nodes : goal.invariant-nodes
invariant-nodes g l =
    IsWriting g.F.Shelf l.initial.walk.pair l.initial.files (map view_of l.initial.area) (out_name l.initial.course.out) l.files l.reader l.course.going l.course.out (map view_of l.area) l.splits

abbrev pub decreases-nodes : goal.decreases-nodes
decreases-nodes g l = nodes_from l.initial.walk.pair.most l.depth l.splits
