use Rattle.std.proofs.Common.{◌≡◌, ◌≤◌, ◌-◌, ◌+◌, ◌^◌, None}
use Rattle.setup_lines.specs.Setups.{last_unit, limits_set_up}
use Rattle.setup_lines.specs.laws.Walk.{HasPassed}
use Rattle.setup_lines.proofs.Kept.{AreKeptAfter}
use Rattle.setup_lines.proofs.reading.read_units.Given as goal

-- the setups were read so far, and the shelf is as it was but for its count of read faults
abbrev pub invariant-setups : goal.invariant-setups
invariant-setups g l = record {
  same : g.F.Shelf.files l.files ≡ g.F.Shelf.files l.initial.files;
  readable : g.F.Shelf.may_read l.files ≡ g.F.Shelf.may_read l.initial.files;
  writable : g.F.Shelf.may_write l.files ≡ g.F.Shelf.may_write l.initial.files;
  no_write : g.F.Shelf.write_faults l.files ≡ g.F.Shelf.write_faults l.initial.files;
  later : g.F.Shelf.read_faults l.initial.files ≤ g.F.Shelf.read_faults l.files;
  kept : AreKeptAfter l.limits l.sizes None l.units;
  set : l.running ≡ limits_set_up l.limits l.sizes l.units;
  last : l.above ≡ last_unit None l.units;
  passed : HasPassed (g.F.Shelf.files l.initial.files) l.name l.head.bytes (1 + l.head.count) l.units l.walk;
}

abbrev pub decreases-setups : goal.decreases-setups
decreases-setups g l = 2 ^ 64 - l.walk.line
