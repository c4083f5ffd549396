-- When no change of a single factor lowers the total of a certificate by the scale.
use Rattle.std.specs.Prelude.{ℕ, ◌<◌, ◌≤◌, ◌^◌, List, length, pos, ◌-ℤ◌, ◌<ℤ◌}
use Rattle.row_kit.specs.declared.domain.Domain.{Domain}
use Rattle.row_kit.specs.declared.program.Program.{Program}
use Rattle.dual_bound.specs.declared.cert.Cert.{Cert}
use Rattle.dual_bound.specs.Total.{total_of}
use Rattle.dual_climb.specs.Factors.{with_factor}

-- with no factor in the place of the row's own is the total lower by so much or more
abbrev pub BestBy : ℕ → Program → List Domain → Cert → ℕ → Type 0
BestBy fall program domains cert row =
    (factor : ℕ) → factor ≤ 2 ^ 40
    → (total_of program domains cert -ℤ pos fall) <ℤ total_of program domains (with_factor cert row factor)

-- and so along each row
abbrev pub RowBestBy : ℕ → Program → List Domain → Cert → Type 0
RowBestBy fall program domains cert = (row : ℕ) → row < length program.rows → BestBy fall program domains cert row

-- a certificate is row-wise best where no change of a single factor lowers its total by the scale or more; so said only of a program with
-- no more than 50,000 rows, as many as a certificate may name
abbrev pub RowBest : Program → List Domain → Cert → Type 0
RowBest program domains cert = length program.rows ≤ 50000 → RowBestBy cert.scale program domains cert
