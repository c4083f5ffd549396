-- The check has taken what the reader has read.
use Rattle.std.proofs.Common.{◌≡◌, ◌≤◌}
use Rattle.log_check.proofs.Taking.{HasTaken}
use Rattle.log_check.proofs.checking.check_behind.Given as goal

abbrev pub invariant-parts : goal.invariant-parts
invariant-parts g l = record {
  same : g.F.Shelf.files l.files ≡ g.F.Shelf.files l.initial.files;
  readable : g.F.Shelf.may_read l.files ≡ g.F.Shelf.may_read l.initial.files;
  writable : g.F.Shelf.may_write l.files ≡ g.F.Shelf.may_write l.initial.files;
  no_write : g.F.Shelf.write_faults l.files ≡ g.F.Shelf.write_faults l.initial.files;
  later : g.F.Shelf.read_faults l.initial.files ≤ g.F.Shelf.read_faults l.files;
  taken : HasTaken l.rows l.depth (g.F.Shelf.files l.files) l.name l.fn.version l.fn.head l.reader l.checker l.began l.claimed;
}
