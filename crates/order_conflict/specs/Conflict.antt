-- Which deliveries of a plant can't be met together.
use Rattle.std.specs.Prelude.{◌≡◌, ◌<◌, ℕ, ⊤, Bool, false, List, length, Option, Some, None, slice_set, slice_index_or}
use Rattle.stn_model.specs.declared.plant.Plant.{Plant}
use Rattle.stn_model.specs.declared.start.Start.{Start}
use Rattle.stn_model.specs.declared.answer.Answer.{Answer}
use Rattle.stn_model.specs.declared.answer.Answer.TheVariants.{Optimal, Infeasible, BudgetSpent}
use Rattle.stn_model.specs.declared.answer.Outcome.{Outcome}
use Rattle.stn_model.specs.Answers.{IsOutcome}
use Rattle.stn_model.specs.Best.{NoPlan}
use Rattle.stn_model.specs.Feasible.{Feasible}
use Rattle.stn_model.specs.Profit.{profit}
use Rattle.fewer_orders.specs.Alone.{alone}
use Rattle.order_text.specs.declared.mark.Mark.{Mark}
use Rattle.order_text.specs.declared.mark.Mark.TheVariants.{Out, Needed, Open}
use Rattle.order_text.specs.Marks.{left_of}
use Rattle.order_conflict.specs.declared.answer.ConflictAnswer.{ConflictAnswer}
use Rattle.order_conflict.specs.declared.answer.ConflictAnswer.TheVariants.{Planned, Unsettled, Among, Unproved}

-- the plant with the deliveries that are left alone
abbrev pub left_plant : Plant → List Mark → Plant
left_plant plant marks = alone plant (left_of marks)

-- which deliveries are left, without the one at a place
abbrev pub left_without : ℕ → List Mark → List Bool
left_without place marks = slice_set (left_of marks) place false

-- some plan is feasible
abbrev pub CanBeMet : Plant → Type 0
CanBeMet plant = (plan : List Start) × Feasible plant plan

-- the budget was spent before a plan was found
abbrev pub FoundNone : Answer → Type 0
FoundNone (Optimal plan earned) = ⊥
FoundNone Infeasible = ⊥
FoundNone (BudgetSpent None earned cap) = ⊤
FoundNone (BudgetSpent (Some plan) earned cap) = ⊥

-- planning the plant spent its budget before it found a plan
pub record EndsOpen (plant : Plant) (budget : ℕ) : Type 0 where
  pub outcome : Outcome
  pub right : IsOutcome plant budget outcome
  pub none : FoundNone outcome.answer

-- what planning the plant without a delivery says of it: it goes where no plan is feasible, is needed where one was found, and else is open
abbrev pub mark_of : Answer → Mark
mark_of (Optimal plan earned) = Needed
mark_of Infeasible = Out
mark_of (BudgetSpent None earned cap) = Open
mark_of (BudgetSpent (Some plan) earned cap) = Needed

-- what the mark of a delivery that is left says of the plant without it: some plan is feasible, or it is open
abbrev pub MarkSays : Mark → ℕ → Plant → Type 0
MarkSays Out budget others = ⊤
MarkSays Needed budget others = CanBeMet others
MarkSays Open budget others = EndsOpen others budget

-- what the mark that planning without a delivery leads to says of the plant without it
abbrev pub TrialSays : Mark → ℕ → Plant → Type 0
TrialSays Out budget others = NoPlan others
TrialSays Needed budget others = CanBeMet others
TrialSays Open budget others = EndsOpen others budget

-- The marks are right: no plan meets all the deliveries that are left, and without any one of them that is not open some plan meets the
-- others. Where none is left, no plan is feasible even without deliveries.
pub record AreMarks (plant : Plant) (budget : ℕ) (marks : List Mark) : Type 0 where
  pub each : length marks ≡ length plant.deliveries
  pub none : NoPlan (left_plant plant marks)
  pub says : (place : ℕ) → place < length marks → MarkSays (slice_index_or marks place Out) budget (alone plant (left_without place marks))

-- what planning the whole plant answers: a plan, or that it is not settled; nothing where no plan is feasible
abbrev pub planned : Answer → Option ConflictAnswer
planned (Optimal plan earned) = Some (Planned earned plan)
planned Infeasible = None
planned (BudgetSpent None earned cap) = Some Unsettled
planned (BudgetSpent (Some plan) earned cap) = Some (Planned earned plan)

-- The answer is right: the plan is feasible and earns the profit; or the budget was spent on the plant as a whole; or no plan of the plant is
-- feasible, and the marks are right. Nothing is to be proved, so nothing stays unproved.
abbrev pub IsConflict : Plant → ℕ → ConflictAnswer → Type 0
IsConflict plant budget (Planned earned plan) = Feasible plant plan × (profit plant plan ≡ earned)
IsConflict plant budget Unsettled = EndsOpen plant budget
IsConflict plant budget (Among marks) = NoPlan plant × AreMarks plant budget marks.items
IsConflict plant budget (Unproved marks) = ⊥
