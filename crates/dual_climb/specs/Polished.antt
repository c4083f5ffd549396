-- When a certificate has come from another by changes of single factors that were each worth it.
use Rattle.std.specs.Prelude.{◌≡◌, ◌⊎◌, ℕ, List, [], ◌∷◌, length, Option, Some, ℤ, pos, ◌+ℤ◌, ◌≤ℤ◌}
use Rattle.std.specs.List.{All}
use Rattle.proof_tree.specs.declared.capped.Capped.{Capped}
use Rattle.proof_tree.specs.declared.capped.Capped.TheVariants.{AtMost}
use Rattle.row_kit.specs.declared.domain.Domain.{Domain}
use Rattle.row_kit.specs.declared.program.Program.{Program}
use Rattle.dual_bound.specs.declared.cert.Cert.{Cert}
use Rattle.dual_bound.specs.declared.cert.Mult.{Mult}
use Rattle.dual_bound.specs.Total.{total_of, IsFitMult}
use Rattle.dual_climb.specs.Factors.{cert_of, factor_of, with_factor}

-- the certificate after a change: a row gets a factor in the place of its own
abbrev pub changed : Cert → Mult → Cert
changed cert change = with_factor cert change.row change.factor

-- the factors after changes, one after another
abbrev pub after : ℕ → List Mult → List Mult → List Mult
after scale mults [] = mults
after scale mults (change ∷ changes) = after scale (changed (cert_of scale mults) change).mults changes

-- each change, one after another, lowers the total by so much or more
abbrev pub EachLowersBy : ℕ → Program → List Domain → ℕ → List Mult → List Mult → Type 0
EachLowersBy fall program domains scale mults [] = Unit {0}
EachLowersBy fall program domains scale mults (change ∷ changes) =
    ((total_of program domains (changed (cert_of scale mults) change) +ℤ pos fall) ≤ℤ total_of program domains (cert_of scale mults))
    × EachLowersBy fall program domains scale (changed (cert_of scale mults) change).mults changes

-- a certificate has the factors of another after changes of one row's factor at a time, each of which lowers the total by the scale or more
pub record IsPolishedFrom (program : Program) (domains : List Domain) (old new : Cert) : Type 0 where
  pub changes : List Mult
  pub in_range : All (IsFitMult (length program.rows)) changes
  pub lowers : EachLowersBy old.scale program domains old.scale old.mults changes
  pub gives : (row : ℕ) → factor_of new.mults row ≡ factor_of (after old.scale old.mults changes) row

-- a certificate is another itself, or its total is lower by the other's scale or more
abbrev pub IsKeptOrLower : Program → List Domain → Cert → Cert → Type 0
IsKeptOrLower program domains old new =
    (new ≡ old) ⊎ ((total_of program domains new +ℤ pos old.scale) ≤ℤ total_of program domains old)

-- both totals are there, and the second is at most the first
abbrev pub NeverRises : Option ℤ → Option ℤ → Type 0
NeverRises (Some before) (Some after) = after ≤ℤ before
NeverRises _ _ = ⊥

-- a cap is at most a number, where there is one to stop at
abbrev pub IsReached : Option ℤ → Capped → Type 0
IsReached (Some stop) (AtMost cap) = cap ≤ℤ stop
IsReached _ _ = ⊥
