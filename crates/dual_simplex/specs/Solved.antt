-- When the certificate of a simplex is defined, and when it is better than none.
use Rattle.std.specs.Prelude.{◌≡◌, List, ◌⊎◌, ◌<ℤ◌, IsSome}
use Rattle.std.specs.List.{All}
use Rattle.proof_tree.specs.declared.capped.Capped.{Capped}
use Rattle.proof_tree.specs.declared.capped.Capped.TheVariants.{AtMost, NoPoint}
use Rattle.row_kit.specs.declared.domain.Domain.{Domain}
use Rattle.row_kit.specs.declared.program.Program.{Program}
use Rattle.row_kit.specs.Domain.{IsOpen}
use Rattle.dual_bound.specs.declared.cert.Cert.{Cert}
use Rattle.dual_bound.specs.Cap.{cert_cap}
use Rattle.dual_bound.specs.Plain.{plain_cert}
use Rattle.dual_bound.specs.Total.{total_at}

-- a cap is NoPoint, or AtMost a number that is below another's
abbrev pub IsLowerCap : Capped → Capped → Type 0
IsLowerCap NoPoint other = Unit {0}
IsLowerCap (AtMost cap) (AtMost other) = cap <ℤ other
IsLowerCap _ _ = ⊥

-- a certificate has a total over domains
abbrev pub HasTotal : Program → List Domain → Cert → Type 0
HasTotal program domains cert = IsSome (total_at program domains cert)

-- a certificate has a total over all domains none of which is empty
abbrev pub HasTotals : Program → Cert → Type 0
HasTotals program cert = (domains : List Domain) → All IsOpen domains → IsSome (total_at program domains cert)

-- a certificate is scale 1 without multipliers, or its cap over domains is NoPoint or below that one's
abbrev pub IsPlainOrBetter : Program → List Domain → Cert → Type 0
IsPlainOrBetter program domains cert = (cert ≡ plain_cert) ⊎ IsLowerCap (cert_cap program domains cert) (cert_cap program domains plain_cert)
