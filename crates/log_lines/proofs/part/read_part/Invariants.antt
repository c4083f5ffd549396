use Rattle.std.proofs.Common.{◌≡◌, ◌+◌, ◌-◌, ◌≤◌, length, take}
use Rattle.log_lines.specs.Reader.{HasNoFeed}
use Rattle.log_lines.proofs.FileParts.{IsRead}
use Rattle.log_lines.proofs.part.read_part.Given as goal

-- the part was read so far, and the shelf is as it was but for its count of read faults
abbrev pub invariant-bytes : goal.invariant-bytes
invariant-bytes g l = record {
  same : g.F.Shelf.files l.files ≡ g.F.Shelf.files l.initial.files;
  readable : g.F.Shelf.may_read l.files ≡ g.F.Shelf.may_read l.initial.files;
  writable : g.F.Shelf.may_write l.files ≡ g.F.Shelf.may_write l.initial.files;
  no_write : g.F.Shelf.write_faults l.files ≡ g.F.Shelf.write_faults l.initial.files;
  later : g.F.Shelf.read_faults l.initial.files ≤ g.F.Shelf.read_faults l.files;
  room : length l.part ≡ 200;
  within : l.count ≤ 200;
  place : l.ahead.place ≡ l.initial.ahead.place + l.count;
  plain : HasNoFeed (take l.count l.part);
  told : IsRead (g.F.Shelf.files l.initial.files) l.name l.initial.ahead.place l.ahead (take l.count l.part);
}

abbrev pub decreases-bytes : goal.decreases-bytes
decreases-bytes g l = 200 - l.count
