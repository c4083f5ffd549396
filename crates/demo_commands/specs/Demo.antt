-- The answer of `demo`: its text, and when it is right.
use Rattle.std.specs.Prelude.{◌≡◌, ◌≢◌, ℕ, List, ◌++◌, length, codes, decimal}
use Rattle.std.specs.Fmt.{signed_decimal}
use Rattle.stn_model.specs.declared.plant.Plant.{Plant}
use Rattle.stn_model.specs.declared.answer.Answer.{Answer}
use Rattle.stn_model.specs.declared.answer.Answer.TheVariants.{Optimal, Infeasible, BudgetSpent}
use Rattle.stn_model.specs.declared.answer.Outcome.{Outcome}
use Rattle.stn_model.specs.Answers.{IsOutcome}
use Rattle.time_grid.specs.Slots.{slots}
use Rattle.plant_make.specs.Made.{plant_made}
use Rattle.plan_told.specs.Proofs.{claim_of}
use Rattle.answer_texts.specs.Planning.{profit_word, status_of}
use Rattle.answer_texts.specs.Checking.{claim_text}

-- the plant of a seed that is shown: one of four chains
abbrev pub shown_plant : ℕ → Plant
shown_plant seed = plant_made seed 4

-- the first line of the text of an answer, without its mark
unfoldable pub answer_line : Answer → List ℕ
answer_line (Optimal plan earned) = codes "optimal " ++ (signed_decimal earned ++ codes "\n")
answer_line Infeasible = codes "infeasible\n"
answer_line (BudgetSpent plan earned cap) = codes "budget-spent " ++ (profit_word plan earned ++ (codes " " ++ (signed_decimal cap ++ codes "\n")))

-- the lines of the seed and of the number of slots
abbrev pub demo_head : ℕ → Plant → List ℕ
demo_head seed plant = codes "demo " ++ (decimal seed ++ (codes "\nslots " ++ (decimal (length (slots plant)) ++ codes "\n")))

-- the four lines: the seed, the number of slots, the answer, and what a check says of its log, which is the answer's claim
abbrev pub demo_text : ℕ → Plant → Answer → List ℕ
demo_text seed plant answer = demo_head seed plant ++ (answer_line answer ++ claim_text (claim_of plant answer))

-- The answer of `demo`: a right outcome of planning the plant of the seed with 500 boxes, with its status and its text. Doing
-- nothing is feasible, so that it is never that no plan is.
pub record Shown (seed status : ℕ) (text : List ℕ) : Type 0 where
  pub outcome : Outcome
  pub right : IsOutcome (shown_plant seed) 500 outcome
  pub status_is : status ≡ status_of outcome.answer
  pub found : status ≢ 1
  pub text_is : text ≡ demo_text seed (shown_plant seed) outcome.answer
