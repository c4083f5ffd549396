-- The answer of `replan`, when it is right, and what it leaves.
use Rattle.std.specs.Prelude.{◌⊎◌, ℕ, List, Option, Some}
use Rattle.stn_edge.specs.Files.{FileMap}
use Rattle.stn_model.specs.declared.plant.Plant.{Plant}
use Rattle.stn_model.specs.declared.start.Start.{Start}
use Rattle.stn_model.specs.declared.answer.Outcome.{Outcome}
use Rattle.stn_model.specs.Answers.{IsOutcomeOf}
use Rattle.stn_model.specs.Feasible.{Feasible}
use Rattle.stn_model.specs.Profit.{profit}
use Rattle.row_kit.specs.declared.domain.Domain.{Domain}
use Rattle.row_kit.specs.declared.program.Program.{Program}
use Rattle.row_set.specs.Parts.{IsAdmitted}
use Rattle.frozen_plan.specs.Frozen.{kept_starts}
use Rattle.frozen_plan.specs.Keeping.{Keeps, IsKeptPart}
use Rattle.plan_told.specs.Outcomes.{IsPartOutcome, least_plan, whole_count}
use Rattle.plan_told.specs.Proofs.{HasProof, LeavesSomeBegun, bytes_in}
use Rattle.stn_solve.specs.Begun.{EarnsAtLeast}
use Rattle.answer_texts.specs.Kept.{OnKept}
use Rattle.answer_texts.specs.Planning.{Planned}
use Rattle.answer_texts.specs.Changed.{counted_since}

-- a right outcome of planning over a part of a plant's choices; where the part admits a plan to begin with, the PROFIT is at least
-- what that earns
pub record IsBegunOutcome (plant : Plant) (part : Program) (start : List Start) (budget : ℕ) (outcome : Outcome) : Type 0 where
  pub right : IsPartOutcome plant part budget outcome
  pub begun : IsAdmitted plant part start → EarnsAtLeast (profit plant start) outcome.answer

-- A right outcome of planning among the feasible plans that keep the first starts of a plan. Where this plan is feasible as a
-- whole, the PROFIT is at least what it earns.
pub record IsReplanOutcome (plant : Plant) (period : ℕ) (start : List Start) (part : Program) (budget : ℕ) (outcome : Outcome) : Type 0 where
  pub right : IsOutcomeOf plant (Keeps plant period (kept_starts period start)) (least_plan plant part) (whole_count part) budget outcome
  pub begun : Feasible plant start → EarnsAtLeast (profit plant start) outcome.answer

-- The answer of `replan` over a program of the feasible plans that keep the starts: a right outcome of planning among these
-- plans within the budget, and how many starts of the plan from the period on have changed. There is a proof of it, the head of whose
-- log, where it has one, is judged over these choices, and where the bytes of a log are told, they are the text of its log.
abbrev pub SolvedOver : ℕ → Plant → ℕ → List Start → Option (List ℕ) → Program → ℕ → List ℕ → Type 0
SolvedOver budget plant period start log part status text = Planned plant (counted_since (Some period) start) (IsReplanOutcome plant period start part budget) (HasProof plant part part.root 0 log) status text

-- the answer of `replan` from the starts of a plan before a period
abbrev pub Replanned : ℕ → Plant → ℕ → List Start → Option (List ℕ) → Type 0 → ℕ → List ℕ → Type 0
Replanned budget plant period start log Unchanged status text =
    OnKept plant period (kept_starts period start) Unchanged (SolvedOver budget plant period start log) status text

-- what an attempt over a part leaves in the file of a log, the head of which is judged over domains: a log that was begun, if anything, or
-- a whole one, of an outcome
abbrev pub LeavesPartLog : Plant → Program → List Domain → ℕ → List ℕ → Option FileMap → Option FileMap → Type 0
LeavesPartLog plant part judged levels log old new = LeavesSomeBegun plant part judged levels log old new ⊎ ((outcome : Outcome) × HasProof plant part judged levels (bytes_in log new) outcome)

-- what replanning leaves in the file of its log: a log over the program of the plans that keep the starts
abbrev pub LeavesKept : Plant → ℕ → List Start → List ℕ → Option FileMap → Option FileMap → Type 0
LeavesKept plant period kept log old new = (part : Program) × (IsKeptPart plant period kept part × LeavesPartLog plant part part.root 0 log old new)
