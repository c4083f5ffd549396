-- The parts so far were items and were put, and all other files are as before.
use Rattle.std.proofs.Common.{◌≡◌}
use Rattle.store_frames.specs.Frames.{ReadsAndWritesOne}
use Rattle.log_nodes.specs.Reading.{IsReading}
use Rattle.resumed_log.specs.laws.Beside.{out_name}
use Rattle.resumed_log.proofs.copying.copy_items.Given as goal

abbrev pub invariant-parts : goal.invariant-parts
invariant-parts g l = record {
  reading : IsReading (g.F.Shelf.files l.files) l.pair.log.now l.reader;
  named : out_name l.out ≡ out_name l.fn.out;
  frame : ReadsAndWritesOne g.F.Shelf (out_name l.fn.out) l.fn.files l.files;
}
