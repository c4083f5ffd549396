-- The answer of `improve`, when it is right.
use Rattle.std.specs.Prelude.{◌≡◌, ◌⊎◌, ℕ, List, Option, Some}
use Rattle.stn_model.specs.declared.plant.Plant.{Plant}
use Rattle.stn_model.specs.declared.start.Start.{Start}
use Rattle.stn_model.specs.declared.answer.Outcome.{Outcome}
use Rattle.stn_model.specs.Answers.{IsOutcome}
use Rattle.stn_model.specs.Feasible.{Feasible}
use Rattle.stn_model.specs.Profit.{profit}
use Rattle.plan_told.specs.Proofs.{HasPlantProof}
use Rattle.stn_solve.specs.Begun.{EarnsAtLeast}
use Rattle.command_words.specs.declared.uses.PlanUse.TheVariants.{Simulate}
use Rattle.answer_texts.specs.Planning.{Planned}
use Rattle.answer_texts.specs.Simulation.{Simulated}
use Rattle.answer_texts.specs.Changed.{counted_since}

-- a right outcome of planning a plant that begins with a plan: where this plan is feasible, the PROFIT is at least what it earns
pub record IsGivenOutcome (plant : Plant) (start : List Start) (budget : ℕ) (outcome : Outcome) : Type 0 where
  pub right : IsOutcome plant budget outcome
  pub begun : Feasible plant start → EarnsAtLeast (profit plant start) outcome.answer

-- a right outcome of planning a plant whose PROFIT is at least what a plan earns
pub record IsImproved (plant : Plant) (start : List Start) (budget : ℕ) (outcome : Outcome) : Type 0 where
  pub right : IsOutcome plant budget outcome
  pub earns : EarnsAtLeast (profit plant start) outcome.answer

-- the answer of `simulate` on a plan that is not feasible
pub record CannotBegin (plant : Plant) (start : List Start) (status : ℕ) (text : List ℕ) : Type 0 where
  pub simulated : Simulated Simulate plant start status text
  pub status_is : status ≡ 1

-- the answer of planning that begins with a feasible plan: a right outcome whose PROFIT is at least what this plan earns, and how many
-- of its starts have changed; there is a proof of it, and where the bytes of a log are told, they are the text of its log
pub record BeganWith (budget : ℕ) (plant : Plant) (start : List Start) (log : Option (List ℕ)) (status : ℕ) (text : List ℕ) : Type 0 where
  pub feasible : Feasible plant start
  pub planned : Planned plant (counted_since (Some 0) start) (IsImproved plant start budget) (HasPlantProof plant log) status text

-- the answer of `improve` on a plan: what it breaks first where it is not feasible, and then no file has changed; else a right outcome
-- that earns no less
abbrev pub Improved : ℕ → Plant → List Start → Option (List ℕ) → Type 0 → ℕ → List ℕ → Type 0
Improved budget plant start log Unchanged status text = (CannotBegin plant start status text × Unchanged) ⊎ BeganWith budget plant start log status text
