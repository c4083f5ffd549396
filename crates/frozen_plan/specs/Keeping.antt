-- What keeping the first starts of a plan comes to.
use Rattle.std.specs.Prelude.{◌≡◌, ◌↔◌, ⊤, ℕ, Option, Some, None, List, All, AllPairs}
use Rattle.stn_model.specs.declared.plant.Plant.{Plant}
use Rattle.stn_model.specs.declared.start.Start.{Start}
use Rattle.stn_model.specs.declared.violation.Violation.{Violation}
use Rattle.stn_model.specs.declared.violation.Violation.TheVariants.{Unfit, Busy, Early, Gap, StockLow, StockHigh, Load}
use Rattle.stn_model.specs.Fits.{Fits}
use Rattle.stn_model.specs.Batches.{Apart}
use Rattle.stn_model.specs.Feasible.{Feasible}
use Rattle.stn_model.specs.Best.{NoneOf}
use Rattle.stn_model.specs.Violations.{BreaksFirst}
use Rattle.plan_sim.specs.declared.verdict.Verdict.{Verdict}
use Rattle.plan_sim.specs.declared.verdict.Verdict.TheVariants as verdict
use Rattle.row_kit.specs.declared.program.Program.{Program}
use Rattle.row_set.specs.Parts.{IsPartOf, IsAdmitted}
use Rattle.frozen_plan.specs.declared.keeping.Keeping.{Keeping}
use Rattle.frozen_plan.specs.declared.keeping.Keeping.TheVariants.{Open, Broken}
use Rattle.frozen_plan.specs.Frozen.{Agrees, frozen_root}

-- a plan is feasible and keeps these starts before the period
abbrev pub Keeps : Plant → ℕ → List Start → List Start → Type 0
Keeps plant period kept plan = Feasible plant plan × Agrees period kept plan

-- starts stand together: each fits, and no two batches meet on a unit
pub record StandTogether (plant : Plant) (starts : List Start) : Type 0 where
  pub fits : All (Fits plant) starts
  pub apart : AllPairs (Apart plant) starts

-- the violation is one of starts alone: a start that does not fit, or two batches that meet
abbrev pub IsOfStarts : Violation → Type 0
IsOfStarts (Unfit place) = ⊤
IsOfStarts (Busy first second) = ⊤
IsOfStarts (Early place) = ⊥
IsOfStarts (Gap first second) = ⊥
IsOfStarts (StockLow state time) = ⊥
IsOfStarts (StockHigh state time) = ⊥
IsOfStarts (Load utility period) = ⊥

-- The kept starts don't stand together: what they break first is a start that does not fit, or two batches that meet. So no
-- feasible plan keeps them.
pub record CannotStand (plant : Plant) (period : ℕ) (kept : List Start) (violation : Violation) : Type 0 where
  pub of_starts : IsOfStarts violation
  pub first : BreaksFirst plant kept violation
  pub none : NoneOf (Keeps plant period kept)

-- The kept starts stand together, and the program is that of the feasible plans that keep them: a part of the plant's choices,
-- where each slot before the period may have what is kept there alone.
pub record IsKeptPart (plant : Plant) (period : ℕ) (kept : List Start) (part : Program) : Type 0 where
  pub together : StandTogether plant kept
  pub is_part : IsPartOf plant part
  pub root : part.root ≡ frozen_root plant period kept
  pub exact : (plan : List Start) → IsAdmitted plant part plan ↔ Keeps plant period kept plan

-- what keeping the starts comes to is right: the rows of the plans that keep them, or what the starts break first
abbrev pub IsKeeping : Plant → ℕ → List Start → Keeping → Type 0
IsKeeping plant period kept (Open rows) = IsKeptPart plant period kept rows.program
IsKeeping plant period kept (Broken violation) = CannotStand plant period kept violation

-- what a verdict on starts says of them alone
abbrev pub broken_start : Verdict → Option Violation
broken_start (verdict.Feasible earned) = None
broken_start (verdict.Broken (Unfit place)) = Some (Unfit place)
broken_start (verdict.Broken (Busy first second)) = Some (Busy first second)
broken_start (verdict.Broken (Early place)) = None
broken_start (verdict.Broken (Gap first second)) = None
broken_start (verdict.Broken (StockLow state time)) = None
broken_start (verdict.Broken (StockHigh state time)) = None
broken_start (verdict.Broken (Load utility period)) = None
