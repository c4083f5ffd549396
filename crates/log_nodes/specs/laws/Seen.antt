-- What an area shows, and what it shows on the way down a proof. Only clauses of private functions cite it.
use Rattle.std.specs.Prelude.{List, map}
use Rattle.row_kit.specs.declared.domain.Domain.{Domain}
use Rattle.row_kit.specs.declared.program.Program.{Program}
use Rattle.proof_tree.specs.Views.{KeepsViews, View, present}
use Rattle.row_relax.specs.View.{Fits, view_of}

-- the view that an area shows
abbrev pub seen : List (List Domain) → View
seen marks = present (map view_of marks)

-- these views stand below others: they are as the others at their marks, and the last one fits the rows
pub record StandsBelow (program : Program) (old new : List View) : Type 0 where
  pub keeps : KeepsViews old new
  pub fits : Fits program (present new)
