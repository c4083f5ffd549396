-- Stands in specs/ since clauses of private functions cite it; no public clause does.
-- Entries that are small.
use Rattle.std.specs.Prelude.{◌≤◌, unsigned_abs}
use Rattle.row_kit.specs.declared.row.Entry.{Entry}

-- an entry whose parts are no greater than those of profit entries may be
pub record IsSmall (entry : Entry) : Type 0 where
  pub fixed : unsigned_abs entry.fixed ≤ 2000000000000000
  pub per : unsigned_abs entry.per ≤ 2000000000000000
