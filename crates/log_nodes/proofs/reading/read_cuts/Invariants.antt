-- The cuts so far were read.
use Rattle.std.proofs.Common.{map}
use Rattle.proof_tree.specs.declared.item.Item.TheVariants.{Cut as CutItem}
use Rattle.store_frames.specs.Frames.{OnlyReads}
use Rattle.log_nodes.specs.Reading.{IsReading, ReadsOn}
use Rattle.log_nodes.proofs.reading.read_cuts.Given as goal

abbrev pub invariant-cuts : goal.invariant-cuts
invariant-cuts g l = record {
  on : ReadsOn (g.F.Shelf.files l.fn.files) l.name l.fn.reader (map CutItem l.cuts) l.reader;
  reading : IsReading (g.F.Shelf.files l.fn.files) l.name l.reader;
  frame : OnlyReads g.F.Shelf l.fn.files l.files;
}
