-- What is searched, and what a search for it comes to.
use Rattle.std.specs.Prelude.{◌≡◌, ◌≢◌, ◌≤◌, ℕ, Bool, true, false, List, Option, Result, IsErrOf}
use Rattle.row_kit.specs.declared.found.Found.{Found}
use Rattle.proof_tree.specs.Taker.{Rose}
use Rattle.proof_tree.specs.Tree.{tree_of}
use Rattle.proof_tree.specs.declared.taker.TakeStop.{TakeStop}
use Rattle.proof_tree.specs.declared.taker.TakeStop.TheVariants.{Failed}
use Rattle.row_relax.specs.Choices.{choices_of}
use Rattle.row_relax.specs.RowProofs.{RowItem, RowTree}
use Rattle.branch_tree.specs.declared.ended.Ended.{Ended}
use Rattle.branch_tree.specs.declared.ended.Searched.{Searched}
use Rattle.branch_tree.specs.declared.request.SearchRequest.{SearchRequest}
use Rattle.branch_tree.specs.Searched.{AreSearchable, IsBrokenOff, IsExact, IsSearch, IsSearchedTo, IsWorth, ended_of}

-- it can be searched: each slot has a value, and at least one box may be counted
pub record CanSearch (sought : SearchRequest) : Type 0 where
  pub searchable : AreSearchable sought.rules.most sought.rows.now
  pub few : (1 ≤ sought.budget) × (sought.budget ≤ 100000)

-- a search for it ended so, and this is its proof
abbrev pub IsSearchFor : SearchRequest → Ended → RowTree → Type 0
IsSearchFor sought ended tree = IsSearch sought.rules.most sought.rows.now sought.rules.floors sought.rules.given sought.budget tree ended

-- a search for it ended so, and the taker took its proof
abbrev pub WasSearched : {T O : Type 0} → (T → O → List RowItem → T → O → Type 0) → SearchRequest → Ended → T → O → T → O → Type 0
WasSearched took sought = IsSearchedTo took sought.rules.most sought.rows.now sought.rules.floors sought.rules.given sought.budget

-- a search for it broke off, and the taker took, or did not wholly take, the first items of some proof that may be written
abbrev pub WasBrokenOff : {T O : Type 0} → (took broke : T → O → List RowItem → T → O → Type 0) → SearchRequest → T → O → T → O → Type 0
WasBrokenOff took broke sought = IsBrokenOff took broke sought.rules.most sought.rows.now sought.rules.floors

-- the count of a search for it that ended so is exact
abbrev pub IsExactFor : SearchRequest → Ended → Type 0
IsExactFor sought = IsExact sought.rows.now.program sought.budget

-- where the point that it begins with is lawful, this best point is worth as much
abbrev pub BeganFor : SearchRequest → Option Found → Type 0
BeganFor sought = IsWorth (choices_of sought.rows.now) sought.start.now

-- a search for it ended so: the taker took its proof and may take more, and the best point is worth as much as a lawful one that it begins with
pub record HasEnded {T O : Type 0} (may_put : T → O → Type 0) (took : T → O → List RowItem → T → O → Type 0) (sought : SearchRequest) (ended : Ended) (taker : T) (out : O) (taker_after : T) (out_after : O) : Type 0 where
  pub ready : may_put taker_after out_after
  pub searched : WasSearched took sought ended taker out taker_after out_after
  pub begun : BeganFor sought ended.best

-- a search for it ended so and built its proof, and the best point is worth as much as a lawful one that it begins with
pub record HasBuilt (sought : SearchRequest) (searched : Searched) : Type 0 where
  pub search : IsSearchFor sought (ended_of searched) (tree_of searched.tree)
  pub begun : BeganFor sought searched.best

-- a search for it ended so, and this tells whether its count is exact: where it is not, a box is left open though budget is left
pub record TellsExact (sought : SearchRequest) (told : Bool) (ended : Ended) : Type 0 where
  pub exact : told ≡ true → IsExactFor sought ended
  pub inexact : told ≡ false → (ended.left_open ≡ true) × (ended.spent ≢ sought.budget)

-- a taker's count of faults has not fallen, and it failed only where the count rose
pub record CountsFaults {O X : Type 0} (faults : O → ℕ) (result : Result X TakeStop) (before after : O) : Type 0 where
  pub later : faults before ≤ faults after
  pub failed : IsErrOf result Failed → Rose (faults before) (faults after)
