-- The walk stands where what is left to do writes the whole proof; all logs may be read on, and the new one written.
use Rattle.std.proofs.Common.{◌+◌, ℕ, map}
use Rattle.row_relax.specs.View.{view_of}
use Rattle.open_splits.proofs.Remaining.{open_steps, way_steps}
use Rattle.merge_walk.proofs.Steps.{IsWalking}
use Rattle.merge_walk.proofs.merging.merge_node.Given as goal

abbrev pub invariant-steps : goal.invariant-steps
invariant-steps g l =
    IsWalking g.F.Shelf
    (record {
      rows = l.initial.merging.rows.now;
      best = l.initial.merging.best;
      stem = l.initial.merging.stem.now;
      depth = l.initial.depth;
      views = map view_of l.initial.area;
      here = record { told = g.F.Shelf.files l.initial.files; sources = l.initial.sources.items; writer = l.initial.writer };
    }) l.initial.files l.files (map view_of l.area) l.sources.items l.writer l.splits l.way

abbrev pub decreases-steps : goal.decreases-steps
decreases-steps g l = way_steps 36865 (λ (depth : ℕ). depth) l.way + open_steps 36865 l.splits
