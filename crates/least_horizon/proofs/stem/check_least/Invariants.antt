use Rattle.std.proofs.Common.{◌≡◌, ◌≤◌, IfSome}
use Rattle.stn_edge.specs.Files.{file_of}
use Rattle.proof_log.specs.LogNames.{log_name}
use Rattle.least_horizon.specs.Least.{NoneBelow}
use Rattle.least_horizon.specs.Stems.{AreClear}
use Rattle.least_horizon.proofs.stem.check_least.Given as goal

-- nothing speaks against the logs so far, and the shelf is as it was but for its count of read faults
abbrev pub invariant-loop-shorter : goal.invariant-loop-shorter
invariant-loop-shorter g l = record {
  clear : IfSome (g.F.Shelf.files l.fn.files) (λ m. AreClear l.plant (λ h. file_of m (log_name l.stem h)) l.shorter);
  none : NoneBelow l.plant l.shorter;
  same : g.F.Shelf.files l.files ≡ g.F.Shelf.files l.fn.files;
  readable : g.F.Shelf.may_read l.files ≡ g.F.Shelf.may_read l.fn.files;
  writable : g.F.Shelf.may_write l.files ≡ g.F.Shelf.may_write l.fn.files;
  no_write : g.F.Shelf.write_faults l.files ≡ g.F.Shelf.write_faults l.fn.files;
  later : g.F.Shelf.read_faults l.fn.files ≤ g.F.Shelf.read_faults l.files;
}
