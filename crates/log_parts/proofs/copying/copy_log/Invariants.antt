-- The writer has the items that the reader has read.
use Rattle.std.proofs.Common.{◌≡◌}
use Rattle.store_frames.specs.Frames.{ReadsAndWritesOne}
use Rattle.log_parts.specs.laws.Copying.{name_of}
use Rattle.log_parts.proofs.Copies.{HasReadOn}
use Rattle.log_parts.proofs.copying.copy_log.Given as goal

abbrev pub invariant-parts : goal.invariant-parts
invariant-parts g l = record {
  on : HasReadOn l.fn.limits l.fn.head l.name (g.F.Shelf.files l.fn.files) l.fn.writer (g.F.Shelf.files l.files) l.writer l.reader;
  named : name_of l.writer ≡ name_of l.fn.writer;
  frame : ReadsAndWritesOne g.F.Shelf (name_of l.fn.writer) l.fn.files l.files;
}
