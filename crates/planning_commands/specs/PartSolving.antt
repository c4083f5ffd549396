-- The answer of `solve-part`, when it is right, and what it leaves.
use Rattle.std.specs.Prelude.{◌≡◌, ◌≤◌, ◌⊎◌, ℕ, ◌-◌, List, [], length, Option, None, Ok}
use Rattle.stn_edge.specs.Files.{FileMap}
use Rattle.stn_model.specs.declared.plant.Plant.{Plant}
use Rattle.stn_model.specs.declared.answer.Outcome.{Outcome}
use Rattle.stn_model.specs.Points.{depth_limit}
use Rattle.stn_model.specs.Answers.{IsOutcomeOf}
use Rattle.plant_text.specs.Reading.{reading}
use Rattle.time_grid.specs.Slots.{slots}
use Rattle.row_kit.specs.declared.program.Program.{Program}
use Rattle.row_set.specs.PlantProgram.{plant_root}
use Rattle.valid_log.specs.declared.verdict.LogVerdict.TheVariants.{Yes}
use Rattle.valid_log.specs.PlantLogs.{IsPlantVerdict}
use Rattle.plan_told.specs.Outcomes.{least_plan, whole_count}
use Rattle.plan_told.specs.Proofs.{HasProof, claim_of}
use Rattle.plant_parts.specs.PlantParts.{IsOfPart, IsPartProgram}
use Rattle.command_replies.specs.Sources.{IsReadOf}
use Rattle.answer_texts.specs.Planning.{Planned}
use Rattle.answer_texts.specs.Changed.{counted_since}
use Rattle.planning_commands.specs.Replanning.{LeavesPartLog}

-- there is a proof of the outcome whose log is valid also where one split less may be open for each level than in a log over the plant;
-- where bytes are told, they are the text of its log
pub record HasPartProof (plant : Plant) (levels : ℕ) (program : Program) (log : Option (List ℕ)) (outcome : Outcome) : Type 0 where
  pub has : HasProof plant program (plant_root plant) levels log outcome
  pub shallow : IsPlantVerdict plant program (depth_limit plant - levels) has.text (Yes (claim_of plant outcome.answer))

-- The answer over a program of a part of the plant: a right outcome of planning among the feasible plans of the part within the
-- budget. There is a proof of it, and where the bytes of a log are told, they are the text of its log.
abbrev pub PartSolvedOver : ℕ → Plant → ℕ → ℕ → Option (List ℕ) → Program → ℕ → List ℕ → Type 0
PartSolvedOver budget plant levels part log program status text =
    Planned plant (counted_since None []) (IsOutcomeOf plant (IsOfPart plant levels part) (least_plan plant program) (whole_count program) budget) (HasPartProof plant levels program log) status text

-- the answer of `solve-part`, where the plant has a slot for each level
abbrev pub PartSolved : ℕ → Plant → ℕ → ℕ → Option (List ℕ) → ℕ → List ℕ → Type 0
PartSolved budget plant levels part log status text =
    (program : Program) × (IsPartProgram plant levels part program × PartSolvedOver budget plant levels part log program status text)

-- what planning a part leaves in the file of its log: it is as it was, or the plant has a slot for each level and it holds a log over
-- a program of the part
abbrev pub LeavesPart : Plant → ℕ → ℕ → List ℕ → Option FileMap → Option FileMap → Type 0
LeavesPart plant levels part log old new =
    (new ≡ old) ⊎ ((levels ≤ length (slots plant)) × ((program : Program) × (IsPartProgram plant levels part program × LeavesPartLog plant program (plant_root plant) levels log old new)))

-- the plant in a file was read, and the file of a log is as it was, or holds a log over a part of the plant
pub record HoldsPart (old new : Option FileMap) (name : List ℕ) (levels part : ℕ) (log : List ℕ) : Type 0 where
  pub plant : Plant
  pub read : IsReadOf reading old name (Ok plant)
  pub holds : LeavesPart plant levels part log old new
