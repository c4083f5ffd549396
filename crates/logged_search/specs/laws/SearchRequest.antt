-- How a search for what is sought ended. Only clauses of private functions cite it.
use Rattle.std.specs.Prelude.{ℕ, List}
use Rattle.row_relax.specs.RowProofs.{RowTree}
use Rattle.branch_tree.specs.declared.ended.Ended.{Ended}
use Rattle.branch_tree.specs.declared.request.SearchRequest.{SearchRequest}
use Rattle.proof_log.specs.Writer.{Writing}
use Rattle.plan_told.specs.Ended.{IsSearched}
use Rattle.logged_search.specs.Logging.{IsLogged}

-- a search for it ended so, and its count is exact
abbrev pub IsEndingFor : SearchRequest → Ended → Type 0
IsEndingFor sought = IsSearched sought.rules.most sought.rows.now sought.rules.floors sought.rules.given sought.budget

-- a writer for the file of this name took a head, and then the items of a proof for it of which this is so
abbrev pub IsLoggedFor : SearchRequest → (RowTree → Type 0) → List ℕ → List ℕ → Writing → Type 0
IsLoggedFor sought Is = IsLogged Is sought.rules.most sought.rows.now sought.rules.floors
