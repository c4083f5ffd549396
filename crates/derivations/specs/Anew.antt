-- How rows and domains grow by derivations that were shown elsewhere, and are looked at anew.
use Rattle.std.specs.Prelude.{◌≡◌, ◌⊎◌, List, [], ◌∷◌, ◌++◌}
use Rattle.row_kit.specs.declared.domain.Domain.{Domain}
use Rattle.row_kit.specs.declared.program.Program.{Program}
use Rattle.row_kit.specs.Row.{no_row}
use Rattle.derivations.specs.declared.derivation.Derivation.{Derivation}
use Rattle.derivations.specs.declared.derivation.Derivation.TheVariants as derivation
use Rattle.derivations.specs.Growth.{Growth, IsShownDerivation, after}
use Rattle.derivations.specs.Larger.{IsGrownTo, begun}

-- the growth past a derivation that is not shown: a cut changes nothing, and in the place of a derived row comes one without entries and of limit 0
abbrev pub past : Growth → Derivation → Growth
past growth (derivation.Cut cut) = growth
past growth (derivation.Row derived) = record { rows = growth.rows ++ no_row ∷ []; domains = growth.domains }

-- a growth comes of another by a derivation that is looked at anew: it is that after the derivation where this is shown, and else that past it
abbrev pub IsNext : Growth → Derivation → Growth → Type 0
IsNext growth derivation next =
    (IsShownDerivation growth derivation × (next ≡ after growth derivation)) ⊎ ((¬ IsShownDerivation growth derivation) × (next ≡ past growth derivation))

-- a growth comes of another by derivations that are looked at anew, one after another
abbrev pub IsGrownAnew : Growth → List Derivation → Growth → Type 0
IsGrownAnew growth [] last = last ≡ growth
IsGrownAnew growth (d ∷ ds) last = (next : Growth) × (IsNext growth d next × IsGrownAnew next ds last)

-- a program is another with derivations over domains that are looked at anew
pub record IsWithAnew (program : Program) (domains : List Domain) (derivations : List Derivation) (larger : Program) : Type 0 where
  pub growth : Growth
  pub anew : IsGrownAnew (begun program domains) derivations growth
  pub grown : IsGrownTo program growth larger
