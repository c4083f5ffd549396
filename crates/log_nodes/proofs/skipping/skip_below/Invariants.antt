-- What was read and what is left to read are all that stands below the end, and the shelf is as it was but for its count of read faults.
use Rattle.std.proofs.Common.{◌≡◌, ◌≤◌}
use Rattle.log_nodes.specs.Reading.{IsReading}
use Rattle.log_nodes.proofs.Parts.{Owes, nodes_left}
use Rattle.log_nodes.proofs.skipping.skip_below.Given as goal

abbrev pub invariant-parts : goal.invariant-parts
invariant-parts g l = record {
  same : g.F.Shelf.files l.files ≡ g.F.Shelf.files l.initial.files;
  readable : g.F.Shelf.may_read l.files ≡ g.F.Shelf.may_read l.initial.files;
  writable : g.F.Shelf.may_write l.files ≡ g.F.Shelf.may_write l.initial.files;
  no_write : g.F.Shelf.write_faults l.files ≡ g.F.Shelf.write_faults l.initial.files;
  later : g.F.Shelf.read_faults l.initial.files ≤ g.F.Shelf.read_faults l.files;
  reading : IsReading (g.F.Shelf.files l.initial.files) l.name l.reader;
  owes : Owes (g.F.Shelf.files l.initial.files) l.name l.initial.reader l.end l.reader l.boxes l.rooms;
}

abbrev pub decreases-parts : goal.decreases-parts
decreases-parts g l = nodes_left l.rooms
