-- Searches that ended, with a count that is exact, and what stands for one where nothing is left to search.
use Rattle.std.specs.Prelude.{◌≡◌, ◌⊎◌, ℕ, Bool, [], None, false}
use Rattle.std.specs.List.{All}
use Rattle.row_kit.specs.declared.program.Program.{Program}
use Rattle.row_kit.specs.Domain.{IsOpen}
use Rattle.proof_tree.specs.declared.capped.Capped.TheVariants.{NoPoint}
use Rattle.proof_tree.specs.Tree.{leaf, no_point}
use Rattle.row_relax.specs.declared.rows.Rows.{Rows}
use Rattle.row_relax.specs.RowProofs.{RowTree}
use Rattle.branch_tree.specs.declared.ended.Ended.{Ended}
use Rattle.branch_tree.specs.Searched.{IsExact, IsSearch}

-- this proof is that of a search over rows whose count is exact: at most so many splits stand there one below another, splits have floors only where `floors` says so, and slots from the number `given` on are sums
pub record IsSearchOf (most : ℕ) (rows : Rows) (floors : Bool) (given budget : ℕ) (ended : Ended) (tree : RowTree) : Type 0 where
  pub search : IsSearch most rows floors given budget tree ended
  pub exact : IsExact rows.program budget ended

-- the proof of one box that is empty
abbrev pub empty_tree : RowTree
empty_tree = leaf [] None no_point

-- what one empty box comes to: no point, and nothing left open
abbrev pub empty_end : Ended
empty_end = record { best = None; cap = NoPoint; spent = 1; left_open = false }

-- some slot of the root has no value, so that it has no point, and this is the proof of that and what it comes to
pub record IsEmptyRoot (program : Program) (ended : Ended) (tree : RowTree) : Type 0 where
  pub bare : ¬ All IsOpen program.root
  pub ended_is : ended ≡ empty_end
  pub tree_is : tree ≡ empty_tree

-- this proof is that of a search whose count is exact, or where some slot of the root has no value that of one empty box
abbrev pub IsEnding : ℕ → Rows → Bool → ℕ → ℕ → Ended → RowTree → Type 0
IsEnding most rows floors given budget ended tree = IsSearchOf most rows floors given budget ended tree ⊎ IsEmptyRoot rows.program ended tree

-- a search came to this, or an empty root did, and there is a proof that it made
pub record IsSearched (most : ℕ) (rows : Rows) (floors : Bool) (given budget : ℕ) (ended : Ended) : Type 0 where
  pub tree : RowTree
  pub of : IsEnding most rows floors given budget ended tree
