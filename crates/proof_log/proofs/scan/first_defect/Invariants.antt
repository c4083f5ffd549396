-- The reader has read parts of the log, none of them its end or a defect.
use Rattle.std.proofs.Common.{◌≡◌, ◌≤◌, List, Option}
use Rattle.proof_log.specs.declared.claim.Claim.{Claim}
use Rattle.row_relax.specs.RowProofs.{RowItem}
use Rattle.proof_log.specs.LogReading.{HasRead}
use Rattle.proof_log.proofs.scan.first_defect.Given as goal

abbrev pub invariant-parts : goal.invariant-parts
invariant-parts g l = record {
  same : g.F.Shelf.files l.files ≡ g.F.Shelf.files l.initial.files;
  readable : g.F.Shelf.may_read l.files ≡ g.F.Shelf.may_read l.initial.files;
  writable : g.F.Shelf.may_write l.files ≡ g.F.Shelf.may_write l.initial.files;
  no_write : g.F.Shelf.write_faults l.files ≡ g.F.Shelf.write_faults l.initial.files;
  later : g.F.Shelf.read_faults l.initial.files ≤ g.F.Shelf.read_faults l.files;
  read : (items : List RowItem) × (claim : Option Claim) × HasRead (g.F.Shelf.files l.files) l.name l.fn.version l.fn.head l.fn.limits items claim l.reader;
}
