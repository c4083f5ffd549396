-- The walk stands where what is left to do reads both proofs, and both logs can be read on.
use Rattle.std.proofs.Common.{◌+◌, map}
use Rattle.row_relax.specs.View.{view_of}
use Rattle.open_splits.proofs.Remaining.{open_steps, way_steps}
use Rattle.log_growth.proofs.Steps.{IsGrowing, depth_of, place_of}
use Rattle.log_growth.proofs.growing.grown.Given as goal

abbrev pub invariant-steps : goal.invariant-steps
invariant-steps g l =
    IsGrowing g.F.Shelf
    (record {
      pair = l.initial.pair;
      told = g.F.Shelf.files l.initial.files;
      place = place_of l.initial.way;
      views = map view_of l.initial.area;
      here = l.initial.readers;
    }) l.initial.files l.files (map view_of l.area) l.readers l.splits l.way

abbrev pub decreases-steps : goal.decreases-steps
decreases-steps g l = way_steps l.initial.pair.most depth_of l.way + open_steps l.initial.pair.most l.splits
