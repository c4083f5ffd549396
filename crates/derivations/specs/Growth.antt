-- How rows and domains grow by derivations.
use Rattle.std.specs.Prelude.{ℕ, ◌+◌, ◌<◌, ⊤, List, [], ◌∷◌, ◌++◌, length}
use Rattle.row_kit.specs.declared.domain.Domain.{Domain}
use Rattle.row_kit.specs.declared.row.Row.{Row}
use Rattle.row_kit.specs.Row.{row_at}
use Rattle.range_prop.specs.Cut.{cut_domains}
use Rattle.derived_rows.specs.Shown.{IsShownRow, derived_row}
use Rattle.derivations.specs.declared.derivation.Derivation.{Derivation}
use Rattle.derivations.specs.declared.derivation.Derivation.TheVariants as derivation

-- the rows that there are, and what is left of the domains over which rows are shown
pub record Growth : Type 0 where
  pub rows : List Row
  pub domains : List Domain

-- the growth after a derivation: a cut narrows the domain of its slot, and a derived row comes last
abbrev pub after : Growth → Derivation → Growth
after growth (derivation.Cut cut) = record { rows = growth.rows; domains = cut_domains (row_at growth.rows cut.row) cut.slot growth.domains }
after growth (derivation.Row derived) = record { rows = growth.rows ++ derived_row growth.rows derived ∷ []; domains = growth.domains }

-- the growth after derivations, one after another
abbrev pub after_all : Growth → List Derivation → Growth
after_all growth [] = growth
after_all growth (d ∷ ds) = after_all (after growth d) ds

-- a derivation is shown: a cut names a row and a slot that are there, and a derived row is shown over the domains that are left
abbrev pub IsShownDerivation : Growth → Derivation → Type 0
IsShownDerivation growth (derivation.Cut cut) = (cut.row < length growth.rows) × (cut.slot < length growth.domains)
IsShownDerivation growth (derivation.Row derived) = IsShownRow growth.rows growth.domains derived

-- each derivation is shown after those before it
abbrev pub AreShown : Growth → List Derivation → Type 0
AreShown growth [] = ⊤
AreShown growth (d ∷ ds) = IsShownDerivation growth d × AreShown (after growth d) ds

-- how many of derivations are rows
abbrev pub rows_of : List Derivation → ℕ
rows_of [] = 0
rows_of (derivation.Cut _ ∷ derivations) = rows_of derivations
rows_of (derivation.Row _ ∷ derivations) = 1 + rows_of derivations
