-- What a cap and a claim say of plans.
use Rattle.std.specs.Prelude.{ℕ, List, ℤ}
use Rattle.row_kit.specs.declared.program.Program.{Program}
use Rattle.row_kit.specs.Point.{IsLawful, worth_of}
use Rattle.proof_tree.specs.declared.capped.Capped.{Capped}
use Rattle.proof_log.specs.declared.claim.Claim.{Claim}
use Rattle.proof_log.specs.declared.claim.Claim.TheVariants.{Optimal, Infeasible, Between, Below}
use Rattle.proof_log.specs.ClaimSays.{HasWorth}
use Rattle.plan_images.specs.Caps.{AllowsPoint, AllowsMore}

-- a cap bears out a claim: its plan is admitted and earns what it says, and the cap is not above its own; where it has none the cap allows no point
abbrev pub IsBorne : {X : Type 0} → (X → Type 0) → (X → ℤ) → (List ℕ → X) → Capped → Claim → Type 0
IsBorne admits earned of_values cap (Optimal profit point) = HasWorth admits earned (of_values point) profit × (¬ AllowsMore cap profit)
IsBorne admits earned of_values cap Infeasible = ¬ AllowsPoint cap
IsBorne admits earned of_values cap (Between profit most point) = HasWorth admits earned (of_values point) profit × (¬ AllowsMore cap most)
IsBorne admits earned of_values cap (Below most) = ¬ AllowsMore cap most

-- the values of a lawful point stand for an admitted plan that earns what the point is worth
abbrev pub ReadsAs : {X : Type 0} → Program → (X → Type 0) → (X → ℤ) → (List ℕ → X) → Type 0
ReadsAs program admits earned of_values = (point : List ℕ) → IsLawful program point → HasWorth admits earned (of_values point) (worth_of program point)
