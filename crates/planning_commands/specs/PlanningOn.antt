-- The answer of planning that goes on from a plan at hand, when it is right, and what it leaves: `replan` keeps the starts before a
-- period, and `improve` keeps none.
use Rattle.std.specs.Prelude.{◌≡◌, ◌⊎◌, ℕ, List, [], Option, Some, None, Ok}
use Rattle.stn_edge.specs.Files.{FileMap}
use Rattle.stn_model.specs.declared.plant.Plant.{Plant}
use Rattle.stn_model.specs.declared.start.Start.{Start}
use Rattle.stn_model.specs.Feasible.{Feasible}
use Rattle.plant_text.specs.Reading.{reading}
use Rattle.plan_text.specs.PlanText.{plan_of_text}
use Rattle.frozen_plan.specs.Frozen.{kept_starts}
use Rattle.frozen_plan.specs.Keeping.{StandTogether}
use Rattle.command_replies.specs.declared.reply.Reply.{Reply}
use Rattle.command_replies.specs.Answers.{IsPlanAnswer}
use Rattle.command_replies.specs.Sources.{IsReadOf}
use Rattle.planning_commands.specs.NamedLog.{LogLeft, told_log}
use Rattle.planning_commands.specs.Solving.{LeavesPlant}
use Rattle.planning_commands.specs.Improving.{Improved}
use Rattle.planning_commands.specs.Replanning.{Replanned, LeavesKept}

-- the answer of planning on from a plan, of which the starts before a period are kept, or none
abbrev pub PlannedOn : Option ℕ → ℕ → Plant → List Start → Option (List ℕ) → Type 0 → ℕ → List ℕ → Type 0
PlannedOn None budget plant start log Unchanged status text = Improved budget plant start log Unchanged status text
PlannedOn (Some period) budget plant start log Unchanged status text = Replanned budget plant period start log Unchanged status text

-- the reply to a command that plans on from the plan in a file, of which the starts before a period are kept, or none
abbrev pub AnswersOn : Option ℕ → ℕ → Option (List ℕ) → Option FileMap → Option FileMap → List ℕ → List ℕ → Reply → Type 0
AnswersOn kept budget log old new name plan reply =
    IsPlanAnswer old new name plan [] (λ plant start. PlannedOn kept budget plant start (told_log log new) (new ≡ old)) reply.status reply.text.items

-- planning can go on from a plan: the starts that are kept of it stand together, and where none are kept, it is feasible
abbrev pub CanGoOn : Option ℕ → Plant → List Start → Type 0
CanGoOn None plant start = Feasible plant start
CanGoOn (Some period) plant start = StandTogether plant (kept_starts period start)

-- what planning on leaves in the file of its log: a log over the plans that keep the starts, and where none are kept, over the plant
abbrev pub LeavesOn : Option ℕ → Plant → List Start → List ℕ → Option FileMap → Option FileMap → Type 0
LeavesOn None plant start log old new = LeavesPlant plant log old new
LeavesOn (Some period) plant start log old new = LeavesKept plant period (kept_starts period start) log old new

-- what planning on leaves where a log may be named: every file as it was, or planning could go on, and such a log
abbrev pub LeftOn : Option ℕ → Plant → List Start → Option (List ℕ) → Option FileMap → Option FileMap → Type 0
LeftOn kept plant start log old new = LogLeft log (λ name. (new ≡ old) ⊎ (CanGoOn kept plant start × LeavesOn kept plant start name old new)) old new

-- the plant and the plan in two files were read, and planning can go on from the plan
pub record CanBePlanned (files : Option FileMap) (name plan : List ℕ) (kept : Option ℕ) : Type 0 where
  pub plant : Plant
  pub read : IsReadOf reading files name (Ok plant)
  pub starts : List Start
  pub read_plan : IsReadOf (plan_of_text plant) files plan (Ok starts)
  pub can : CanGoOn kept plant starts

-- then the file of a log holds a log over these plans
pub record HoldsOn (old new : Option FileMap) (name plan : List ℕ) (kept : Option ℕ) (log : List ℕ) : Type 0 where
  pub from : CanBePlanned old name plan kept
  pub holds : LeavesOn kept from.plant from.starts log old new
