-- What a simulation answers.
use Rattle.std.specs.Prelude.{◌≡◌, ℕ, ℤ, pos, ◌<ℤ◌, ◌⊎◌, Bool, true, false, List, IsSomeAnd, slice_get}
use Rattle.stn_model.specs.declared.plant.Plant.{Plant}
use Rattle.stn_model.specs.declared.start.Start.{Start}
use Rattle.stn_model.specs.Feasible as feasible
use Rattle.stn_model.specs.Profit.{profit}
use Rattle.stn_model.specs.Violations.{BreaksFirst}
use Rattle.stn_model.specs.declared.violation.Violation.{Violation}
use Rattle.stn_model.specs.declared.violation.Violation.TheVariants.{StockLow, StockHigh}
use Rattle.stn_model.specs.Plant.{state_at}
use Rattle.plan_sim.specs.Faults.{level}
use Rattle.plan_sim.specs.declared.verdict.Verdict.{Verdict}
use Rattle.plan_sim.specs.declared.verdict.Verdict.TheVariants.{Feasible, Broken}

-- the verdict is right of the plan: it is feasible and earns the profit, or the violation is the first
abbrev pub IsPlanVerdict : Plant → List Start → Verdict → Type 0
IsPlanVerdict plant plan (Feasible earned) = feasible.Feasible plant plan × (earned ≡ profit plant plan)
IsPlanVerdict plant plan (Broken violation) = BreaksFirst plant plan violation

-- the verdict says that the plan is feasible
abbrev pub says_feasible : Verdict → Bool
says_feasible (Feasible earned) = true
says_feasible (Broken violation) = false

-- the violation says how the stock of a state breaks its limits at a time: it is below 0, or above the limit
abbrev pub IsOfLevel : Plant → List ℤ → ℕ → ℕ → Violation → Type 0
IsOfLevel plant stocks state time violation =
    ((violation ≡ StockLow state time) × (level plant stocks state time <ℤ pos 0))
    ⊎ ((violation ≡ StockHigh state time) × IsSomeAnd (slice_get (state_at plant state).limits time) (λ limit. pos limit <ℤ level plant stocks state time))
