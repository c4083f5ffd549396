use Rattle.std.proofs.Common.{◌≡◌, ◌≤◌}
use Rattle.least_horizon.specs.LogNames.{logs_in, OthersStayBelow}
use Rattle.least_horizon.specs.Least.{AreInfeasible}
use Rattle.least_horizon.proofs.horizons.least_to.Given as goal

-- the logs so far are whole, and every other file is as it was
abbrev pub invariant-loop-horizon : goal.invariant-loop-horizon
invariant-loop-horizon g l = record {
  whole : AreInfeasible l.plant l.budget (logs_in l.stem (g.F.Shelf.files l.files)) l.horizon;
  kept : OthersStayBelow l.stem l.horizon (g.F.Shelf.files l.fn.files) (g.F.Shelf.files l.files);
  readable : g.F.Shelf.may_read l.files ≡ g.F.Shelf.may_read l.fn.files;
  writable : g.F.Shelf.may_write l.files ≡ g.F.Shelf.may_write l.fn.files;
  no_read : g.F.Shelf.read_faults l.files ≡ g.F.Shelf.read_faults l.fn.files;
  later : g.F.Shelf.write_faults l.fn.files ≤ g.F.Shelf.write_faults l.files;
}
