-- The first logs, so many, were read past the split, and the others stand as before.
use Rattle.std.proofs.Common.{◌≡◌, drop, length, take}
use Rattle.store_frames.specs.Frames.{OnlyReads}
use Rattle.merged_nodes.specs.laws.Looked.{AreReading, HavePassed}
use Rattle.merged_nodes.proofs.passing.pass_below.Given as goal

abbrev pub invariant-loop-place : goal.invariant-loop-place
invariant-loop-place g l = record {
  passed : HavePassed (g.F.Shelf.files l.fn.files) l.merging.stem.now l.end l.depth (take l.place l.fn.sources.items) (take l.place l.sources.items);
  as_many : length l.sources.items ≡ length l.fn.sources.items;
  rest : drop l.place l.sources.items ≡ drop l.place l.fn.sources.items;
  reading : AreReading (g.F.Shelf.files l.fn.files) l.merging.stem.now l.sources.items;
  frame : OnlyReads g.F.Shelf l.fn.files l.files;
}
