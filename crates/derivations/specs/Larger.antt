-- The program that derivations lead to.
use Rattle.std.specs.Prelude.{◌≡◌, List, map}
use Rattle.std.specs.List.{zip}
use Rattle.row_kit.specs.declared.domain.Domain.{Domain}
use Rattle.row_kit.specs.declared.program.Program.{Program}
use Rattle.row_kit.specs.Domain.{shared}
use Rattle.derivations.specs.declared.derivation.Derivation.{Derivation}
use Rattle.derivations.specs.Growth.{Growth, after_all}

-- what stands before any derivation: the rows of a program, and the domains over which rows are shown
abbrev pub begun : Program → List Domain → Growth
begun program domains = record { rows = program.rows; domains = domains }

-- what a program and domains grow to by derivations
abbrev pub grown_by : Program → List Domain → List Derivation → Growth
grown_by program domains derivations = after_all (begun program domains) derivations

-- the values that two lists of domains share, slot by slot
abbrev pub met : List Domain → List Domain → List Domain
met one other = map (λ pair. shared pair.0 pair.1) (zip one other)

-- A program is another that has grown to this: the derived rows come after all others, and of the root is left what the domains hold
-- besides. All else is the same.
pub record IsGrownTo (program : Program) (growth : Growth) (larger : Program) : Type 0 where
  pub rows : larger.rows ≡ growth.rows
  pub root : larger.root ≡ met program.root growth.domains
  pub profit : larger.profit ≡ program.profit
  pub base : larger.base ≡ program.base
  pub tags : larger.tags ≡ program.tags
  pub changes : larger.changes ≡ program.changes

-- a program is another with derivations over domains
abbrev pub IsWithDerivations : Program → List Domain → List Derivation → Program → Type 0
IsWithDerivations program domains derivations larger = IsGrownTo program (grown_by program domains derivations) larger
