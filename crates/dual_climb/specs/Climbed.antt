-- When a certificate is no worse than another, and when a row helps one.
use Rattle.std.specs.Prelude.{ℕ, ◌+◌, ◌<◌, ◌≤◌, ◌^◌, List, length, ◌≤ℤ◌, ◌<ℤ◌}
use Rattle.row_kit.specs.declared.domain.Domain.{Domain}
use Rattle.row_kit.specs.declared.program.Program.{Program}
use Rattle.dual_bound.specs.declared.cert.Cert.{Cert}
use Rattle.dual_bound.specs.Total.{total_of}
use Rattle.dual_climb.specs.Factors.{factor_of, with_factor}

-- the factor of a row, raised by the scale
abbrev pub raised : Cert → ℕ → ℕ
raised cert row = factor_of cert.mults row + cert.scale

-- the total of a certificate is at most that of another
abbrev pub IsNoWorse : Program → List Domain → Cert → Cert → Type 0
IsNoWorse program domains other cert = total_of program domains cert ≤ℤ total_of program domains other

-- the total of a certificate is below that of another
abbrev pub IsBetter : Program → List Domain → Cert → Cert → Type 0
IsBetter program domains other cert = total_of program domains cert <ℤ total_of program domains other

-- a row helps where there are no more than 50,000, as many as a certificate may name, and raising its factor by the scale keeps it in its
-- range and lowers the total
pub record Helps (program : Program) (domains : List Domain) (cert : Cert) (row : ℕ) : Type 0 where
  pub few : length program.rows ≤ 50000
  pub there : row < length program.rows
  pub range : raised cert row ≤ 2 ^ 40
  pub lower : total_of program domains (with_factor cert row (raised cert row)) <ℤ total_of program domains cert
