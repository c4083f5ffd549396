-- Answers over the contents of files.
use Rattle.std.specs.Prelude.{◌≡◌, ◌⊎◌, ℕ, List, [], ◌∷◌, map, slice_index_or, Option, Ok, IfSome}
use Rattle.stn_edge.specs.Files.{FileMap, file_of}
use Rattle.stn_model.specs.declared.plant.Plant.{Plant}
use Rattle.stn_model.specs.declared.start.Start.{Start}
use Rattle.plant_text.specs.Reading.{reading}
use Rattle.plan_text.specs.PlanText.{plan_of_text}
use Rattle.command_replies.specs.declared.reply.Reply.{Reply}
use Rattle.command_replies.specs.Sources.{IsReadOf, OnPlant, OnPlan}

-- the bytes of the file of this number among those that are read
abbrev pub content : List (List ℕ) → ℕ → List ℕ
content contents number = slice_index_or contents number []

-- The answer to a command that reads the files of these names, with the files before and after: there are contents of these files, in
-- order, which are those of the files before where the store tells them, and it is the answer over these contents. A refusal of the
-- plant or of the plan leaves every file as it was.
pub record IsAnswerOver (old new : Option FileMap) (names : List (List ℕ)) (Answers : List (List ℕ) → ℕ → List ℕ → Type 0) (status : ℕ) (text : List ℕ) : Type 0 where
  pub contents : List (List ℕ)
  pub told : IfSome old (λ m. contents ≡ map (file_of m) names)
  pub answers : Answers contents status text
  pub kept : (status ≡ 3) ⊎ (status ≡ 4) → new ≡ old

-- the answer to a command that reads a plant file first, and others
abbrev pub IsPlantAnswer : Option FileMap → Option FileMap → List ℕ → List (List ℕ) → (List (List ℕ) → Plant → ℕ → List ℕ → Type 0) → ℕ → List ℕ → Type 0
IsPlantAnswer old new plant others Answers status text =
    IsAnswerOver old new (plant ∷ others) (λ contents. OnPlant (reading (content contents 0)) (Answers contents)) status text

-- the reply is the answer to such a command
abbrev pub AnswersPlant : Option FileMap → Option FileMap → List ℕ → List (List ℕ) → (List (List ℕ) → Plant → ℕ → List ℕ → Type 0) → Reply → Type 0
AnswersPlant old new plant others Answers reply = IsPlantAnswer old new plant others Answers reply.status reply.text.items

-- a plant was read of the file of this name
abbrev pub HasReadPlant : Option FileMap → List ℕ → Type 0
HasReadPlant files name = (plant : Plant) × IsReadOf reading files name (Ok plant)

-- the answer to a command that reads a plant file and a plan file first, and others
abbrev pub IsPlanAnswer : Option FileMap → Option FileMap → List ℕ → List ℕ → List (List ℕ) → (Plant → List Start → ℕ → List ℕ → Type 0) → ℕ → List ℕ → Type 0
IsPlanAnswer old new plant plan others Answers status text =
    IsPlantAnswer old new plant (plan ∷ others) (λ contents p. OnPlan (plan_of_text p (content contents 1)) (Answers p)) status text

-- the statuses of refusals
abbrev pub IsUnwritten : ℕ → Type 0
IsUnwritten status = (status ≡ 2) ⊎ ((status ≡ 3) ⊎ ((status ≡ 4) ⊎ (status ≡ 5)))

-- where the reply is a refusal, the files are as before
abbrev pub LeavesUnwritten : Option FileMap → Option FileMap → Reply → Type 0
LeavesUnwritten old new reply = IsUnwritten reply.status → new ≡ old
