use Rattle.std.proofs.Common.{◌≡◌, ◌-◌, ◌≤◌, length, vec_len}
use Rattle.stn_edge.proofs.FrontLemmas.{IsFront}
use Rattle.stn_edge.proofs.reading.read_all.Given as goal

-- what was read is the front of the file, and the shelf is as it was but for its count of read faults
abbrev pub invariant-pieces : goal.invariant-pieces
invariant-pieces g l = record {
  same : g.F.Shelf.files l.files ≡ g.F.Shelf.files l.initial.files;
  readable : g.F.Shelf.may_read l.files ≡ g.F.Shelf.may_read l.initial.files;
  writable : g.F.Shelf.may_write l.files ≡ g.F.Shelf.may_write l.initial.files;
  no_write : g.F.Shelf.write_faults l.files ≡ g.F.Shelf.write_faults l.initial.files;
  later : g.F.Shelf.read_faults l.initial.files ≤ g.F.Shelf.read_faults l.files;
  room : length l.piece ≡ 8192;
  within : vec_len l.bytes ≤ l.limit;
  front : IsFront (g.F.Shelf.files l.initial.files) l.name l.bytes.items (vec_len l.bytes);
}

abbrev pub decreases-pieces : goal.decreases-pieces
decreases-pieces g l = l.limit - vec_len l.bytes
