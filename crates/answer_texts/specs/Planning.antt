-- The answer of planning: its text, and when it is right.
use Rattle.std.specs.Prelude.{◌≡◌, ◌≤◌, ◌^◌, ℕ, ℤ, unsigned_abs, List, [], ◌++◌, All, codes, decimal, Option, Some, None, IfSome, Ok}
use Rattle.std.specs.Fmt.{signed_decimal}
use Rattle.stn_model.specs.declared.plant.Plant.{Plant}
use Rattle.stn_model.specs.declared.start.Start.{Start}
use Rattle.stn_model.specs.declared.answer.Answer.{Answer}
use Rattle.stn_model.specs.declared.answer.Answer.TheVariants.{Optimal, Infeasible, BudgetSpent}
use Rattle.stn_model.specs.declared.answer.Outcome.{Outcome}
use Rattle.plan_text.specs.PlanLines.{plan_lines, IsNamed}
use Rattle.plan_text.specs.PlanText.{plan_of_text}

-- the line that says how many starts have changed, where they are counted
abbrev pub changed_line : Option ℕ → List ℕ
changed_line None = []
changed_line (Some count) = codes "# changed " ++ (decimal count ++ codes "\n")

-- the line that says how many boxes it took, and that of the starts that have changed
abbrev pub boxes_lines : ℕ → Option ℕ → List ℕ
boxes_lines used changed = codes "# boxes " ++ (decimal used ++ (codes "\n" ++ changed_line changed))

-- the profit of a plan that may be there, as it is printed
abbrev pub profit_word : Option (List Start) → ℤ → List ℕ
profit_word None earned = codes "-"
profit_word (Some plan) earned = signed_decimal earned

-- the lines of a plan that may be there
abbrev pub found_lines : Plant → Option (List Start) → List ℕ
found_lines plant None = []
found_lines plant (Some plan) = plan_lines plant plan

-- the text of an answer: its line, the line of the boxes, that of the starts that have changed where they are counted, and the lines
-- of its plan
unfoldable pub answer_text : Plant → ℕ → Option ℕ → Answer → List ℕ
answer_text plant used changed (Optimal plan earned) =
    codes "# optimal " ++ (signed_decimal earned ++ (codes "\n" ++ (boxes_lines used changed ++ plan_lines plant plan)))
answer_text plant used changed Infeasible = codes "# infeasible\n" ++ boxes_lines used changed
answer_text plant used changed (BudgetSpent plan earned cap) =
    codes "# budget-spent " ++ (profit_word plan earned ++ (codes " " ++ (signed_decimal cap ++ (codes "\n" ++ (boxes_lines used changed ++ found_lines plant plan)))))

-- the plan that an answer prints: no starts where it has none
abbrev pub printed_plan : Answer → List Start
printed_plan (Optimal plan earned) = plan
printed_plan Infeasible = []
printed_plan (BudgetSpent None earned cap) = []
printed_plan (BudgetSpent (Some plan) earned cap) = plan

-- the exit status of an answer
abbrev pub status_of : Answer → ℕ
status_of (Optimal plan earned) = 0
status_of Infeasible = 1
status_of (BudgetSpent plan earned cap) = 6

-- the starts of the answer's plan name units and tasks of the plant
abbrev pub IsNamedIn : Plant → Answer → Type 0
IsNamedIn plant (Optimal plan earned) = All (IsNamed plant) plan
IsNamedIn plant Infeasible = Unit {0}
IsNamedIn plant (BudgetSpent plan earned cap) = IfSome plan (All (IsNamed plant))

-- an amount of money has at most 128 bits, one of them for its sign
abbrev pub IsMoney : ℤ → Type 0
IsMoney amount = unsigned_abs amount ≤ 2 ^ 127

-- the answer's profit and cap are such amounts
abbrev pub IsInMoney : Answer → Type 0
IsInMoney (Optimal plan earned) = IsMoney earned
IsInMoney Infeasible = Unit {0}
IsInMoney (BudgetSpent plan earned cap) = IsMoney earned × IsMoney cap

-- The answer of planning a plant: an outcome that is right, with its proof, its status and its text, which,
-- read as plan text, says the plan of the outcome. The text says how many starts have changed, where they are counted.
pub record Planned (plant : Plant) (changed : Answer → Option ℕ) (IsRight HasProof : Outcome → Type 0) (status : ℕ) (text : List ℕ) : Type 0 where
  pub outcome : Outcome
  pub right : IsRight outcome
  pub proof : HasProof outcome
  pub status_is : status ≡ status_of outcome.answer
  pub text_is : text ≡ answer_text plant outcome.boxes (changed outcome.answer) outcome.answer
  pub reads_back : plan_of_text plant text ≡ Ok (printed_plan outcome.answer)
