-- No part has been read whole.
use Rattle.std.proofs.Common.{◌≡◌, ◌≤◌, ℕ, List, Option}
use Rattle.log_lines.specs.declared.grammar.Limits.{Limits}
use Rattle.proof_log.specs.declared.claim.Claim.{Claim}
use Rattle.row_relax.specs.RowProofs.{RowItem}
use Rattle.proof_log.specs.LogReading.{HasRead}
use Rattle.proof_log.proofs.log_reader.LogReader.next.Given as goal

abbrev pub invariant-lines : goal.invariant-lines
invariant-lines g l = record {
  same : g.F.Shelf.files l.files ≡ g.F.Shelf.files l.initial.files;
  readable : g.F.Shelf.may_read l.files ≡ g.F.Shelf.may_read l.initial.files;
  writable : g.F.Shelf.may_write l.files ≡ g.F.Shelf.may_write l.initial.files;
  no_write : g.F.Shelf.write_faults l.files ≡ g.F.Shelf.write_faults l.initial.files;
  later : g.F.Shelf.read_faults l.initial.files ≤ g.F.Shelf.read_faults l.files;
  reads : (version head : ℕ) (limits : Limits) (items : List RowItem) (claim : Option Claim) → HasRead (g.F.Shelf.files l.initial.files) l.name version head limits items claim l.initial.self → HasRead (g.F.Shelf.files l.files) l.name version head limits items claim l.self;
}
