-- When a certificate is no worse than scale 1 without multipliers.
use Rattle.std.specs.Prelude.{[], List, ◌≤ℤ◌}
use Rattle.proof_tree.specs.declared.capped.Capped.{Capped}
use Rattle.proof_tree.specs.declared.capped.Capped.TheVariants.{AtMost, NoPoint}
use Rattle.row_kit.specs.declared.domain.Domain.{Domain}
use Rattle.row_kit.specs.declared.program.Program.{Program}
use Rattle.dual_bound.specs.declared.cert.Cert.{Cert}
use Rattle.dual_bound.specs.Cap.{cert_cap}

-- scale 1 without multipliers
abbrev pub plain_cert : Cert
plain_cert = record { scale = 1; mults = [] }

-- a cap is NoPoint, or AtMost a number that is not above another's
abbrev pub IsNotAbove : Capped → Capped → Type 0
IsNotAbove NoPoint other = Unit {0}
IsNotAbove (AtMost cap) (AtMost other) = cap ≤ℤ other
IsNotAbove _ _ = ⊥

-- over domains the cap of a certificate is NoPoint, or not above that of scale 1 without multipliers
abbrev pub IsNoWorseThanPlain : Program → List Domain → Cert → Type 0
IsNoWorseThanPlain program domains cert = IsNotAbove (cert_cap program domains cert) (cert_cap program domains plain_cert)
