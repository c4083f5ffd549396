-- The factors of rows in a certificate.
use Rattle.std.specs.Prelude.{ℕ, ◌==◌, if◌then◌else◌, List, [], ◌∷◌}
use Rattle.dual_bound.specs.declared.cert.Cert.{Cert}
use Rattle.dual_bound.specs.declared.cert.Mult.{Mult}

-- the certificate of a scale and factors
abbrev pub cert_of : ℕ → List Mult → Cert
cert_of n m = record { scale = n; mults = m }

-- the factor of a row: 0 where it has none
abbrev pub factor_of : List Mult → ℕ → ℕ
factor_of [] row = 0
factor_of (mult ∷ mults) row = if mult.row == row then mult.factor else factor_of mults row

-- the factors of the other rows
abbrev pub without : ℕ → List Mult → List Mult
without row [] = []
without row (mult ∷ mults) = if mult.row == row then without row mults else mult ∷ without row mults

-- a certificate with a factor in the place of a row's own; a row without a factor has factor 0
abbrev pub with_factor : Cert → ℕ → ℕ → Cert
with_factor cert row factor =
    record { scale = cert.scale; mults = record { row = row; factor = factor } ∷ without row cert.mults }
