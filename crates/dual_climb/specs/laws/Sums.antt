-- Stands in specs/ since clauses of private functions cite it; no public clause does.
-- Factors as a list with one for each row, and what two lists of factors have in common.
use Rattle.std.specs.Prelude.{◌≡◌, ℕ, ◌+◌, ◌<◌, ◌==◌, if◌then◌else◌, List, [], ◌∷◌, length, ℤ, pos, ◌+ℤ◌, ◌*ℤ◌, slice_index_or}
use Rattle.std.specs.List.{All}
use Rattle.row_kit.specs.declared.domain.Domain.{Domain}
use Rattle.row_kit.specs.declared.program.Program.{Program}
use Rattle.dual_bound.specs.declared.cert.Mult.{Mult}
use Rattle.dual_bound.specs.Total.{IsFitMult}
use Rattle.dual_climb.specs.Polished.{after, EachLowersBy}

-- the sum of factor times what the row is worth
abbrev pub weighted : (ℕ → ℤ) → List Mult → ℤ
weighted worth [] = pos 0
weighted worth (mult ∷ mults) = (pos mult.factor *ℤ worth mult.row) +ℤ weighted worth mults

-- two lists of factors have the same sum, whatever rows are worth
abbrev pub HaveSameSums : List Mult → List Mult → Type 0
HaveSameSums a b = (worth : ℕ → ℤ) → weighted worth a ≡ weighted worth b

-- no factor, for a place where there is none
abbrev pub no_mult : Mult
no_mult = record { row = 0; factor = 0 }

-- the rows are numbered from a start on
abbrev pub AreNumbered : ℕ → List Mult → Type 0
AreNumbered start mults = (place : ℕ) → place < length mults → (slice_index_or mults place no_mult).row ≡ start + place

-- a list has a factor in its range for each row, in order
pub record IsFull (rows : ℕ) (mults : List Mult) : Type 0 where
  pub all : length mults ≡ rows
  pub numbered : AreNumbered 0 mults
  pub fit : All (IsFitMult rows) mults

-- the factor of the first where it is that of a row, and else 0
abbrev pub factor_first : ℕ → List Mult → ℕ
factor_first row [] = 0
factor_first row (mult ∷ mults) = if mult.row == row then mult.factor else 0

-- factors have the sums of others after changes, each of which lowers the total by so much or more
pub record IsLoweredBy (fall : ℕ) (program : Program) (domains : List Domain) (scale : ℕ) (old new : List Mult) : Type 0 where
  pub changes : List Mult
  pub in_range : All (IsFitMult (length program.rows)) changes
  pub lowers : EachLowersBy fall program domains scale old changes
  pub gives : HaveSameSums new (after scale old changes)
