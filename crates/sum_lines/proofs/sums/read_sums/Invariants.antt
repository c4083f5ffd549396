use Rattle.std.proofs.Common.{◌≡◌, ◌≤◌, ◌-◌, length}
use Rattle.sum_lines.specs.Head.{AreKept, begins_on, lines_of}
use Rattle.sum_lines.specs.laws.Walk.{HasPassed}
use Rattle.sum_lines.proofs.sums.read_sums.Given as goal

-- the sums were read so far, and the shelf is as it was but for its count of read faults
abbrev pub invariant-sums : goal.invariant-sums
invariant-sums g l = record {
  same : g.F.Shelf.files l.files ≡ g.F.Shelf.files l.initial.files;
  readable : g.F.Shelf.may_read l.files ≡ g.F.Shelf.may_read l.initial.files;
  writable : g.F.Shelf.may_write l.files ≡ g.F.Shelf.may_write l.initial.files;
  no_write : g.F.Shelf.write_faults l.files ≡ g.F.Shelf.write_faults l.initial.files;
  later : g.F.Shelf.read_faults l.initial.files ≤ g.F.Shelf.read_faults l.files;
  kept : AreKept l.version l.limits l.sums;
  begins : l.lines ≡ begins_on 2 l.sums;
  passed : HasPassed (g.F.Shelf.files l.initial.files) l.name l.version (lines_of l.sums) l.walk;
}

abbrev pub decreases-sums : goal.decreases-sums
decreases-sums g l = 4096 - length l.sums
