-- Found points compared with one another, and with a cap.
use Rattle.std.specs.Prelude.{Bool, true, false, if◌then◌else◌, Option, Some, None, ℤ, int_lt}
use Rattle.row_kit.specs.declared.found.Found.{Found}
use Rattle.proof_tree.specs.declared.capped.Capped.{Capped}
use Rattle.proof_tree.specs.declared.capped.Capped.TheVariants.{AtMost, NoPoint, Bad}

-- the one of two found points that is worth more, the first where both are worth the same
abbrev pub better_of : Option Found → Option Found → Option Found
better_of None other = other
better_of (Some one) None = Some one
better_of (Some one) (Some other) = if int_lt one.value other.value then Some other else Some one

-- a cap leaves something above the best worth
abbrev pub is_over : Capped → Option ℤ → Bool
is_over NoPoint best = false
is_over Bad best = true
is_over (AtMost cap) None = true
is_over (AtMost cap) (Some worth) = int_lt worth cap
