-- What planning comes to that begins with a point.
use Rattle.std.specs.Prelude.{ℕ, ℤ, ◌≤ℤ◌, List, Some, None}
use Rattle.stn_model.specs.declared.answer.Answer.{Answer}
use Rattle.stn_model.specs.declared.answer.Answer.TheVariants.{Optimal, Infeasible, BudgetSpent}
use Rattle.row_kit.specs.declared.program.Program.{Program}
use Rattle.row_kit.specs.Point.{IsLawful, worth_of}

-- an answer has a plan, whose PROFIT is at least this
abbrev pub EarnsAtLeast : ℤ → Answer → Type 0
EarnsAtLeast least (Optimal plan earned) = least ≤ℤ earned
EarnsAtLeast least Infeasible = ⊥
EarnsAtLeast least (BudgetSpent None earned cap) = ⊥
EarnsAtLeast least (BudgetSpent (Some plan) earned cap) = least ≤ℤ earned

-- where a point is lawful, the answer's PROFIT is at least what it is worth
abbrev pub EarnsPoint : Program → List ℕ → Answer → Type 0
EarnsPoint program point said = IsLawful program point → EarnsAtLeast (worth_of program point) said
