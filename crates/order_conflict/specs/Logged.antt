-- The log which shows that deliveries can't be met together.
use Rattle.std.specs.Prelude.{◌≡◌, ◌≢◌, ◌⊎◌, ℕ, List, Vec, Option, IfSome}
use Rattle.std.specs.Global.{Global}
use Rattle.std.specs.Option.{option_map}
use Rattle.std.specs.FinMap.{get}
use Rattle.stn_edge.specs.Files.{FileMap}
use Rattle.stn_model.specs.declared.plant.Plant.{Plant}
use Rattle.stn_model.specs.declared.answer.Answer.{Answer}
use Rattle.stn_model.specs.declared.answer.Answer.TheVariants.{Optimal, Infeasible, BudgetSpent}
use Rattle.stn_model.specs.declared.answer.Outcome.{Outcome}
use Rattle.stn_model.specs.Answers.{IsOutcome}
use Rattle.row_kit.specs.declared.program.Program.{Program}
use Rattle.row_set.specs.PlantProgram.{IsMadeOf, IsProgramOf, plant_root}
use Rattle.plan_told.specs.Proofs.{HasPlantProof, IsSomeLogBegun, bytes_in}
use Rattle.order_text.specs.declared.mark.Mark.{Mark}
use Rattle.order_conflict.specs.declared.answer.ConflictAnswer.{ConflictAnswer}
use Rattle.order_conflict.specs.declared.answer.ConflictAnswer.TheVariants.{Planned, Unsettled, Among, Unproved}
use Rattle.order_conflict.specs.Conflict.{left_plant, AreMarks, IsConflict}

-- what planning the deliveries that are left once more answers
abbrev pub proved : Answer → Vec Mark Global → ConflictAnswer
proved (Optimal plan earned) marks = Unproved marks
proved Infeasible marks = Among marks
proved (BudgetSpent plan earned cap) marks = Unproved marks

-- Planning the plant came to this outcome, and there is a proof of it; where bytes are told, they are the text of its log.
pub record HasOutcomeProof (plant : Plant) (budget : ℕ) (log : Option (List ℕ)) (outcome : Outcome) : Type 0 where
  pub right : IsOutcome plant budget outcome
  pub proof : HasPlantProof plant log outcome

-- the file is the log of an outcome of planning the deliveries that are left alone
pub record HoldsLogOf (plant : Plant) (budget : ℕ) (log : Option (List ℕ)) (marks : List Mark) (Says : Answer → Type 0) : Type 0 where
  pub outcome : Outcome
  pub proved : HasOutcomeProof (left_plant plant marks) budget log outcome
  pub says : Says outcome.answer

-- the file of this name is as it was
abbrev pub FileStays : List ℕ → Option FileMap → Option FileMap → Type 0
FileStays name old new = option_map (λ files. get files name) new ≡ option_map (λ files. get files name) old

-- The answer is right, and so is its log: that no plan meets the deliveries that are left, or that planning them came to something else;
-- where there are no such deliveries, the file is as it was.
abbrev pub IsLogOf : Plant → ℕ → List ℕ → Option FileMap → Option FileMap → ConflictAnswer → Type 0
IsLogOf plant budget name old new (Planned earned plan) = IsConflict plant budget (Planned earned plan) × FileStays name old new
IsLogOf plant budget name old new Unsettled = IsConflict plant budget Unsettled × FileStays name old new
IsLogOf plant budget name old new (Among marks) = IsConflict plant budget (Among marks) × HoldsLogOf plant budget (bytes_in name new) marks.items (λ answer. answer ≡ Infeasible)
IsLogOf plant budget name old new (Unproved marks) = IsConflict plant budget (Among marks) × HoldsLogOf plant budget (bytes_in name new) marks.items (λ answer. answer ≢ Infeasible)

-- the bytes are a first part of a log over the plant's program
abbrev pub IsBegunLog : Plant → Option (List ℕ) → Type 0
IsBegunLog plant log = (program : Program) × (IsMadeOf plant program × (IsProgramOf plant program × IfSome log (IsSomeLogBegun plant program (plant_root plant) 0)))

-- what is left of an answer that was not reached: the file as it was, or the log of right marks, begun
abbrev pub LeavesStepLog : Plant → ℕ → List ℕ → Option FileMap → Option FileMap → Type 0
LeavesStepLog plant budget name old new =
    FileStays name old new ⊎ ((marks : List Mark) × (AreMarks plant budget marks × IsBegunLog (left_plant plant marks) (bytes_in name new)))
