-- The status of an answer of planning, and of a plan that is simulated.
use Rattle.std.proofs.Common.{◌≡◌, ℕ, List, arith}
use Rattle.stn_model.specs.declared.plant.Plant.{Plant}
use Rattle.stn_model.specs.declared.start.Start.{Start}
use Rattle.stn_model.specs.Feasible as feasible
use Rattle.plan_sim.specs.declared.verdict.Verdict.{Verdict}
use Rattle.plan_sim.specs.declared.verdict.Verdict.TheVariants.{Feasible, Broken}
use Rattle.plan_sim.specs.Verdicts.{IsPlanVerdict}
use Rattle.stn_model.specs.declared.answer.Answer.{Answer}
use Rattle.stn_model.specs.declared.answer.Answer.TheVariants.{Optimal, Infeasible, BudgetSpent}
use Rattle.command_replies.specs.Answers.{IsUnwritten}
use Rattle.command_replies.proofs.AnswerLemmas.{written}
use Rattle.command_words.specs.declared.uses.PlanUse.{PlanUse}
use Rattle.answer_texts.specs.Planning.{status_of}
use Rattle.answer_texts.specs.Simulation.{Simulated, verdict_status}

-- the status of an answer of planning is that of no refusal
pub solved-status : (answer : Answer) (status : ℕ) → status ≡ status_of answer → IsUnwritten status → ⊥
solved-status (Optimal plan earned) status is none = written status (λ s. omega (arith, is, s)) (λ s. omega (arith, is, s)) (λ s. omega (arith, is, s)) (λ s. omega (arith, is, s)) none
solved-status Infeasible status is none = written status (λ s. omega (arith, is, s)) (λ s. omega (arith, is, s)) (λ s. omega (arith, is, s)) (λ s. omega (arith, is, s)) none
solved-status (BudgetSpent plan earned cap) status is none = written status (λ s. omega (arith, is, s)) (λ s. omega (arith, is, s)) (λ s. omega (arith, is, s)) (λ s. omega (arith, is, s)) none

-- a plan is feasible whose verdict has the status 0
verdict-feasible : (plant : Plant) (start : List Start) (verdict : Verdict) (status : ℕ) → IsPlanVerdict plant start verdict → status ≡ verdict_status verdict → status ≡ 0 → feasible.Feasible plant start
verdict-feasible plant start (Feasible earned) status right is none = right.0
verdict-feasible plant start (Broken violation) status right is none = absurd (omega (arith, is, none))

-- and so is one that is simulated with this status
pub simulated-feasible : (usage : PlanUse) (plant : Plant) (start : List Start) (status : ℕ) (text : List ℕ) → Simulated usage plant start status text → status ≡ 0 → feasible.Feasible plant start
simulated-feasible usage plant start status text simulated none = verdict-feasible plant start simulated.verdict status simulated.right simulated.status_is none
