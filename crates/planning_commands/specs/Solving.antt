-- The answer of `solve`, when it is right, and what it leaves.
use Rattle.std.specs.Prelude.{◌⊎◌, ℕ, List, [], Option, None, Ok}
use Rattle.stn_edge.specs.Files.{FileMap}
use Rattle.stn_model.specs.declared.plant.Plant.{Plant}
use Rattle.stn_model.specs.declared.answer.Outcome.{Outcome}
use Rattle.stn_model.specs.Answers.{IsOutcome}
use Rattle.plant_text.specs.Reading.{reading}
use Rattle.plan_told.specs.Proofs.{HasPlantProof, IsLeftOf, bytes_in}
use Rattle.command_replies.specs.Sources.{IsReadOf}
use Rattle.answer_texts.specs.Planning.{Planned}
use Rattle.answer_texts.specs.Changed.{counted_since}

-- The answer of `solve`: a right outcome of planning within the budget. There is a proof of the outcome, and
-- where the bytes of a log are told, they are the text of its log.
abbrev pub Solved : ℕ → Plant → Option (List ℕ) → ℕ → List ℕ → Type 0
Solved budget plant log status text = Planned plant (counted_since None []) (IsOutcome plant budget) (HasPlantProof plant log) status text

-- what an attempt over a plant leaves in the file of a log: a log that was begun, if anything, or a whole one, of an outcome
abbrev pub LeavesPlant : Plant → List ℕ → Option FileMap → Option FileMap → Type 0
LeavesPlant plant log old new = IsLeftOf plant log old new ⊎ ((outcome : Outcome) × HasPlantProof plant (bytes_in log new) outcome)

-- the plant in a file was read, and the file of a log holds the log of a proof over it: begun, or whole, of an outcome
pub record HoldsLog (old new : Option FileMap) (name log : List ℕ) : Type 0 where
  pub plant : Plant
  pub read : IsReadOf reading old name (Ok plant)
  pub holds : LeavesPlant plant log old new
