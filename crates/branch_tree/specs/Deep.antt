-- Where a search may not begin, since it could come too far down.
use Rattle.std.specs.Prelude.{ℕ, ◌+◌, Bool, nat_lt}
use Rattle.std.specs.List.{sum_by}
use Rattle.proof_tree.specs.Views.{View}
use Rattle.row_relax.specs.View.{domains_of}
use Rattle.branch_tree.specs.Splits.{splits_of}

-- a view stands below so many splits that with those which its domains allow there could be more than the most
abbrev pub is_deep : ℕ → ℕ → View → Bool
is_deep most depth view = nat_lt most (depth + sum_by splits_of (domains_of view))
