-- Stands in specs/ since clauses of private functions cite it; no public clause does.
use Rattle.std.specs.Prelude.{◌≡◌, ◌≢◌, Bool, [], None, Option, ℤ}
use Rattle.proof_tree.specs.declared.capped.Capped.TheVariants.{Bad}
use Rattle.proof_tree.specs.Cap.{Bounds}
use Rattle.proof_tree.specs.Tree.{leaf, pending, tree_cap}
use Rattle.row_relax.specs.declared.rows.Rows.{Rows}
use Rattle.row_relax.specs.Choices.{IsLawfulIn, steps_of, worth_in}
use Rattle.row_relax.specs.RowProofs.{RowTree}
use Rattle.row_relax.specs.View.{IsIn, view_of}
use Rattle.what_if.specs.Loose.{StandsForCap, IsPlainBelow, loose_cap, no_mults, as_cap}

-- the proof that says nothing: a node without cuts that ends in the certificate of scale 1 without multipliers
abbrev pub plain_proof : RowTree
plain_proof = leaf [] None (pending no_mults)

-- the cap bounds the worths of the lawful points of rows
abbrev pub BoundsRoot : Rows → Option ℤ → Type 0
BoundsRoot rows cap = Bounds (IsIn (view_of rows.program.root)) (IsLawfulIn rows) (worth_in rows) (as_cap cap)

-- the cap is the loose cap of a proof over the root of rows, bounds their lawful points, and answers to the proof's own where that is defined
pub record IsRootCap (capped : Bool) (rows : Rows) (proof : RowTree) (cap : Option ℤ) : Type 0 where
  pub is : as_cap cap ≡ loose_cap capped rows (view_of rows.program.root) proof
  pub bounds : BoundsRoot rows cap
  pub own : IsPlainBelow capped rows → tree_cap (steps_of rows) (view_of rows.program.root) proof ≢ Bad → StandsForCap capped cap (tree_cap (steps_of rows) (view_of rows.program.root) proof)
