use Rattle.std.proofs.Common.{◌≡◌, ◌≤◌, ◌-◌, ◌+◌, ◌++◌, ℕ, List, length}
use Rattle.derivation_lines.specs.declared.line.TailLine.{TailLine}
use Rattle.derivation_lines.specs.Front.{IsFilling}
use Rattle.derivation_lines.specs.Tail.{ArePartsKept, part_lines}
use Rattle.derivation_lines.specs.laws.Parts.{HasHead}
use Rattle.derivation_lines.specs.laws.Walk.{HasPassed}
use Rattle.derivation_lines.proofs.parts.read_parts.Given as goal

-- the parts were read so far, and the shelf is as it was but for its count of read faults
abbrev pub invariant-parts : goal.invariant-parts
invariant-parts g l = record {
  same : g.F.Shelf.files l.files ≡ g.F.Shelf.files l.initial.files;
  readable : g.F.Shelf.may_read l.files ≡ g.F.Shelf.may_read l.initial.files;
  writable : g.F.Shelf.may_write l.files ≡ g.F.Shelf.may_write l.initial.files;
  no_write : g.F.Shelf.write_faults l.files ≡ g.F.Shelf.write_faults l.initial.files;
  later : g.F.Shelf.read_faults l.initial.files ≤ g.F.Shelf.read_faults l.files;
  kept : ArePartsKept l.reach.slots l.reach.rows l.derived;
  filling : IsFilling l.derived l.counts;
  head : HasHead l.initial.derived l.derived;
  goes : (start number : ℕ) (lines : List TailLine) → HasPassed (g.F.Shelf.files l.initial.files) l.name start number lines l.initial.walk → HasPassed (g.F.Shelf.files l.initial.files) l.name start number (lines ++ part_lines l.derived) l.walk;
}

abbrev pub decreases-parts : goal.decreases-parts
decreases-parts g l = (l.counts.factors + l.counts.groups + l.counts.entries) - (length l.derived.factors + length l.derived.groups + length l.derived.entries)
