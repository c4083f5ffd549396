-- Planning over a part of a plant's choices, and over the plant.
use Rattle.std.proofs.Common.{◌≡◌, ℕ, ◌<◌, ◌≤◌, ◌^◌, List, length, Option, Some, None, inl, inr, arith}
use Rattle.std.specs.Prelude.{◌⊎◌, IfOk, Result}
use Rattle.std.proofs.lemmas.List.Sums.{count_by-le-length}
use Rattle.stn_edge.specs.Files.{FileMap}
use Rattle.stn_model.specs.declared.plant.Plant.{Plant}
use Rattle.stn_model.specs.declared.start.Start.{Start}
use Rattle.stn_model.specs.declared.answer.Answer.{Answer}
use Rattle.stn_model.specs.declared.answer.Outcome.{Outcome}
use Rattle.stn_model.specs.Sound.{Sound}
use Rattle.row_kit.specs.declared.program.Program.{Program}
use Rattle.time_grid.specs.PlanPoint.{HasPoint, plan_point}
use Rattle.row_set.specs.Parts.{IsAdmitted, IsPartOf}
use Rattle.row_set.specs.PlantProgram.{IsMadeOf, IsProgramOf, plant_root}
use Rattle.plan_told.specs.Outcomes.{IsPartOutcome, least_plan, whole_count}
use Rattle.plan_told.specs.Proofs.{HasPlantProof, HasProof}
use Rattle.plan_told.proofs.WholePlant.{whole-outcome}
use Rattle.stn_solve.specs.Begun.{EarnsPoint}
use Rattle.stn_solve.proofs.BegunTold.{part-earns}
use Rattle.command_replies.specs.declared.reply.Reply.{Reply}
use Rattle.answer_texts.specs.Changed.{changed_count, counted_since, is_changed}
use Rattle.answer_texts.specs.Planning.{answer_text, printed_plan, status_of, IsInMoney, Planned}
use Rattle.answer_texts.proofs.ReadBack.{planned_if, IsFew}
use Rattle.planning_commands.specs.Improving.{IsGivenOutcome}
use Rattle.planning_commands.specs.Replanning.{IsBegunOutcome, LeavesPartLog}
use Rattle.planning_commands.specs.Solving.{LeavesPlant}

-- ---- answers of planning

-- no more starts have changed than there are
few-changed : (since : Option ℕ) (start : List Start) (said : Answer) → length start < 2 ^ 32 → IsFew (counted_since since start said)
few-changed None start said short = tt
few-changed (Some period) start said short = (let most = count_by-le-length (is_changed period (printed_plan said)) start in omega (arith, most, short))

-- a right outcome that begins with the point of a plan and its text are an answer of planning
pub begun_if : {E : Type 0} (plant : Plant) (part : Program) (start : List Start) (since : Option ℕ) (budget : ℕ) (point : List ℕ) (IsProved : Outcome → Type 0) (outcome : Outcome) (r : Result Reply E)
    → Sound plant → IsPartOf plant part → length start < 2 ^ 32 → budget ≤ 100000 → IsPartOutcome plant part budget outcome → (HasPoint plant start → point ≡ plan_point plant start) → EarnsPoint part point outcome.answer → IsProved outcome
    → IfOk r (λ reply. (reply.status ≡ status_of outcome.answer) × (reply.text.items ≡ answer_text plant outcome.boxes (counted_since since start outcome.answer) outcome.answer)) → IsInMoney outcome.answer
    → IfOk r (λ reply. Planned plant (counted_since since start) (IsBegunOutcome plant part start budget) IsProved reply.status reply.text.items)
begun_if plant part start since budget point IsProved outcome r sound is short most right made earns proof says money =
    planned_if plant (IsAdmitted plant part) (least_plan plant part) (whole_count part) budget (counted_since since start) (IsBegunOutcome plant part start budget) IsProved outcome r
    sound (λ plan admitted. admitted.feasible) most right (record { right = right; begun = part-earns plant part start point outcome.answer sound is made earns }) proof (few-changed since start outcome.answer short) says money

-- an answer that is right in one way, with one proof, is right in another that follows
pub planned-as : (plant : Plant) (changed : Answer → Option ℕ) (A B P Q : Outcome → Type 0) (status : ℕ) (text : List ℕ) → ((outcome : Outcome) → A outcome → B outcome) → ((outcome : Outcome) → P outcome → Q outcome)
    → Planned plant changed A P status text → Planned plant changed B Q status text
planned-as plant changed A B P Q status text right proof is = record {
  outcome = is.outcome;
  right = right is.outcome is.right;
  proof = proof is.outcome is.proof;
  status_is = is.status_is;
  text_is = is.text_is;
  reads_back = is.reads_back;
}

-- ---- over the plant's whole program

module _ (plant : Plant) (program : Program) (made : IsMadeOf plant program) (means : IsProgramOf plant program) where
  -- an outcome over it
  pub given-outcome : (start : List Start) (budget : ℕ) (outcome : Outcome) → Sound plant → IsBegunOutcome plant program start budget outcome → IsGivenOutcome plant start budget outcome
  given-outcome start budget outcome sound is = record {
    right = whole-outcome plant program budget outcome sound made means is.right;
    begun = λ feasible. is.begun (record { feasible = feasible; lies = ((means.feasible start).0 feasible).1.lies });
  }

  -- and its proof
  pub plant-proof : (log : Option (List ℕ)) (outcome : Outcome) → HasProof plant program (plant_root plant) 0 log outcome → HasPlantProof plant log outcome
  plant-proof log outcome has = record { program = program; made = made; means = means; has = has }

  -- what is left over it
  pub leaves-plant : (name : List ℕ) (old new : Option FileMap) → LeavesPartLog plant program (plant_root plant) 0 name old new → LeavesPlant plant name old new
  leaves-plant name old new (inl left) = inl (inr (program, (made, (means, left))))
  leaves-plant name old new (inr whole) = inr (whole.0, record { program = program; made = made; means = means; has = whole.1 })
