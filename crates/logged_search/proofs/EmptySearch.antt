-- What cannot be searched, though it has few splits, has a slot without a value.
use Rattle.std.proofs.Common.{◌≡◌, ℕ, Bool, true, false}
use Rattle.std.specs.List.{All}
use Rattle.row_kit.specs.declared.program.Program.{Program}
use Rattle.row_kit.specs.Domain.{IsOpen}
use Rattle.branch_tree.specs.Searched.{IsSearchable}
use Rattle.logged_search.specs.Logging.{HasFewSplits}

-- where the test fails, not each slot of the root has a value
pub not-open : (most : ℕ) (program : Program) (passed : Bool) → HasFewSplits most program → (IsSearchable most program → passed ≡ true) → passed ≡ false → ¬ All IsOpen program.root
not-open most program passed splits all fails each = let holds = all (record { each_open = each; few_splits = splits }) in cc
