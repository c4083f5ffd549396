-- The node and the cuts so far were put, and all other files are as before.
use Rattle.std.proofs.Common.{◌≡◌}
use Rattle.store_frames.specs.Frames.{WritesOne}
use Rattle.resumed_log.specs.laws.Beside.{out_name}
use Rattle.resumed_log.proofs.writing.put_head.Given as goal

abbrev pub invariant-loop-cut : goal.invariant-loop-cut
invariant-loop-cut g l = record {
  named : out_name l.out ≡ out_name l.fn.out;
  frame : WritesOne g.F.Shelf (out_name l.fn.out) l.fn.files l.files;
}
