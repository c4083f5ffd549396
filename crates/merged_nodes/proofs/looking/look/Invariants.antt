-- The first logs, so many, were looked at, and the others stand as before.
use Rattle.std.proofs.Common.{◌≡◌, drop, length, map, take}
use Rattle.row_relax.specs.View.{view_of}
use Rattle.log_nodes.specs.laws.Seen.{seen}
use Rattle.store_frames.specs.Frames.{OnlyReads}
use Rattle.merged_nodes.specs.laws.Looked.{AreReading, HasLooked}
use Rattle.merged_nodes.proofs.looking.look.Given as goal

abbrev pub invariant-loop-place : goal.invariant-loop-place
invariant-loop-place g l = record {
  looked : HasLooked l.merging.rows.now (seen l.fn.area) (g.F.Shelf.files l.fn.files) l.merging.stem.now l.depth (take l.place l.fn.sources.items) (take l.place l.sources.items) l.looked;
  as_many : length l.sources.items ≡ length l.fn.sources.items;
  rest : drop l.place l.sources.items ≡ drop l.place l.fn.sources.items;
  reading : AreReading (g.F.Shelf.files l.fn.files) l.merging.stem.now l.sources.items;
  as_before : map view_of l.area ≡ map view_of l.fn.area;
  frame : OnlyReads g.F.Shelf l.fn.files l.files;
}
