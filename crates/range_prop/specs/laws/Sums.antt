-- Stands in specs/ since clauses of private functions cite it; no public clause does.
-- What the entries of a row sum to at least, and which entries are light.
use Rattle.std.specs.Prelude.{◌≤◌, List, [], ◌∷◌, ℤ, pos, ◌+ℤ◌, unsigned_abs}
use Rattle.row_kit.specs.declared.domain.Domain.{Domain}
use Rattle.row_kit.specs.declared.row.Entry.{Entry}
use Rattle.range_prop.specs.Cut.{least_counted}

-- the sum of the least entries
abbrev pub least_sum : List Entry → List Domain → ℤ
least_sum [] domains = pos 0
least_sum (entry ∷ entries) domains = least_counted domains entry +ℤ least_sum entries domains

-- an entry keeps the bounds of rows
pub record IsLight (entry : Entry) : Type 0 where
  pub fixed : unsigned_abs entry.fixed ≤ 10000000
  pub per : unsigned_abs entry.per ≤ 10000000
