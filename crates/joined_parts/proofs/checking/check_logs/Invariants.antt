-- The logs of the parts so far are valid and declare what the first does, with these claims, and it is known whether one is of version 4.
use Rattle.std.proofs.Common.{◌≡◌, ◌≢◌, ◌≤◌, false, length, IfSome}
use Rattle.log_parts.specs.Joining.{EachSays}
use Rattle.log_parts.specs.PartLogs.{logs_of}
use Rattle.log_parts.specs.laws.Checked.{HaveClaims}
use Rattle.log_parts.proofs.Versions.{AreKnown}
use Rattle.joined_parts.proofs.checking.check_logs.Given as goal

abbrev pub invariant-loop-part : goal.invariant-loop-part
invariant-loop-part g l = record {
  counted : length l.claims.items ≡ l.part;
  heads_counted : length l.heads.items ≡ l.part;
  checked : IfSome (g.F.Shelf.files l.fn.files) (λ m. HaveClaims l.plant l.levels (logs_of m l.stem) l.fn.first.declared l.heads.items l.claims.items);
  known : IfSome (g.F.Shelf.files l.fn.files) (λ m. AreKnown (logs_of m l.stem) l.part l.fn.first.version l.newest);
  older : l.newest ≡ false → l.fn.first.version ≢ 4;
  said : EachSays l.plant l.levels l.claims.items;
  same : g.F.Shelf.files l.files ≡ g.F.Shelf.files l.fn.files;
  readable : g.F.Shelf.may_read l.files ≡ g.F.Shelf.may_read l.fn.files;
  writable : g.F.Shelf.may_write l.files ≡ g.F.Shelf.may_write l.fn.files;
  no_write : g.F.Shelf.write_faults l.files ≡ g.F.Shelf.write_faults l.fn.files;
  later : g.F.Shelf.read_faults l.fn.files ≤ g.F.Shelf.read_faults l.files;
}
