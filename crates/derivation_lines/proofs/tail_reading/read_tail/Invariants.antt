use Rattle.std.proofs.Common.{◌≡◌, ◌≤◌, ◌-◌, ◌+◌, ◌^◌}
use Rattle.derivations.specs.Growth.{rows_of}
use Rattle.derivation_lines.specs.Tail.{AreDerivationsKept, begins_on, lines_of}
use Rattle.derivation_lines.specs.laws.Walk.{HasPassed}
use Rattle.derivation_lines.proofs.tail_reading.read_tail.Given as goal

-- the derivations were read so far, and the shelf is as it was but for its count of read faults
abbrev pub invariant-derivations : goal.invariant-derivations
invariant-derivations g l = record {
  same : g.F.Shelf.files l.files ≡ g.F.Shelf.files l.initial.files;
  readable : g.F.Shelf.may_read l.files ≡ g.F.Shelf.may_read l.initial.files;
  writable : g.F.Shelf.may_write l.files ≡ g.F.Shelf.may_write l.initial.files;
  no_write : g.F.Shelf.write_faults l.files ≡ g.F.Shelf.write_faults l.initial.files;
  later : g.F.Shelf.read_faults l.initial.files ≤ g.F.Shelf.read_faults l.files;
  few : l.before ≤ 4096;
  before : l.before ≡ rows_of l.derivations;
  kept : AreDerivationsKept l.limits l.derivations;
  begins : l.lines ≡ begins_on (1 + l.head.count) l.derivations;
  passed : HasPassed (g.F.Shelf.files l.initial.files) l.name l.head.bytes (1 + l.head.count) (lines_of l.derivations) l.walk;
}

abbrev pub decreases-derivations : goal.decreases-derivations
decreases-derivations g l = 2 ^ 64 - l.walk.line
