-- The first logs, so many, have ended, and the others stand as before.
use Rattle.std.proofs.Common.{◌≡◌, drop, length, take}
use Rattle.store_frames.specs.Frames.{OnlyReads}
use Rattle.merge_ends.specs.laws.Begun.{HaveEnded}
use Rattle.merge_ends.proofs.readers.read_ends.Given as goal

abbrev pub invariant-loop-place : goal.invariant-loop-place
invariant-loop-place g l = record {
  ended : HaveEnded (g.F.Shelf.files l.fn.files) l.stem (take l.place l.fn.sources.items);
  as_many : length l.sources.items ≡ length l.fn.sources.items;
  rest : drop l.place l.sources.items ≡ drop l.place l.fn.sources.items;
  frame : OnlyReads g.F.Shelf l.fn.files l.files;
}
