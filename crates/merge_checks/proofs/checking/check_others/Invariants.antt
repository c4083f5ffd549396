-- The logs so far are valid and declare what the first does.
use Rattle.std.proofs.Common.{IfSome}
use Rattle.log_parts.specs.PartLogs.{logs_of}
use Rattle.store_frames.specs.Frames.{OnlyReads}
use Rattle.merge_checks.specs.laws.Checked.{AreCheckedTo, AreKnownTo}
use Rattle.merge_checks.proofs.checking.check_others.Given as goal

abbrev pub invariant-loop-number : goal.invariant-loop-number
invariant-loop-number g l = record {
  checked : IfSome (g.F.Shelf.files l.fn.files) (λ m. AreCheckedTo l.plant l.number (logs_of m l.stem) l.logs);
  known : AreKnownTo l.number l.logs;
  frame : OnlyReads g.F.Shelf l.fn.files l.files;
}
