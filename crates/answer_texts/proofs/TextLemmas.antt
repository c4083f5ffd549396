-- A head followed by the lines of a plan is the text of an answer.
use Rattle.std.proofs.Common.{◌≡◌, ℕ, ℤ, List, ◌++◌, Option, ◌∙◌, ap, sym, append_assoc, append-nil, codes, Some, None}
use Rattle.std.specs.Fmt.{signed_decimal}
use Rattle.stn_model.specs.declared.plant.Plant.{Plant}
use Rattle.stn_model.specs.declared.start.Start.{Start}
use Rattle.stn_model.specs.declared.answer.Answer.TheVariants.{Optimal, Infeasible, BudgetSpent}
use Rattle.plan_text.specs.PlanLines.{plan_lines}
use Rattle.answer_texts.specs.Planning.{answer_text, boxes_lines}

-- ---- a head followed by the lines of a plan

-- of a best plan
pub optimal_opened : (earned : ℤ) (lines rest head : List ℕ) → head ≡ codes "# optimal " ++ (signed_decimal earned ++ (codes "\n" ++ lines)) → head ++ rest ≡ codes "# optimal " ++ (signed_decimal earned ++ (codes "\n" ++ (lines ++ rest)))
optimal_opened earned lines rest head is = ap (λ (h : List ℕ). h ++ rest) is ∙ simp append_assoc

-- of a plan that was found before the budget was spent
pub spent_opened : (earned cap : ℤ) (lines rest head : List ℕ) → head ≡ codes "# budget-spent " ++ (signed_decimal earned ++ (codes " " ++ (signed_decimal cap ++ (codes "\n" ++ lines))))
    → head ++ rest ≡ codes "# budget-spent " ++ (signed_decimal earned ++ (codes " " ++ (signed_decimal cap ++ (codes "\n" ++ (lines ++ rest)))))
spent_opened earned cap lines rest head is = ap (λ (h : List ℕ). h ++ rest) is ∙ simp append_assoc

-- ---- such a text is that of an answer

module _ (plant : Plant) (used : ℕ) (changed : Option ℕ) (lines : List ℕ) (is : lines ≡ boxes_lines used changed) where
  -- of a best plan
  pub optimal_text : (plan : List Start) (earned : ℤ) → codes "# optimal " ++ (signed_decimal earned ++ (codes "\n" ++ (lines ++ plan_lines plant plan))) ≡ answer_text plant used changed (Optimal plan earned)
  unfolding answer_text
  optimal_text plan earned = ap (λ (l : List ℕ). codes "# optimal " ++ (signed_decimal earned ++ (codes "\n" ++ (l ++ plan_lines plant plan)))) is

  -- of no plan
  pub infeasible_text : codes "# infeasible\n" ++ lines ≡ answer_text plant used changed Infeasible
  unfolding answer_text
  infeasible_text = ap (λ (l : List ℕ). codes "# infeasible\n" ++ l) is

  -- of a plan that was found before the budget was spent
  pub spent_text : (plan : List Start) (earned cap : ℤ) → codes "# budget-spent " ++ (signed_decimal earned ++ (codes " " ++ (signed_decimal cap ++ (codes "\n" ++ (lines ++ plan_lines plant plan))))) ≡ answer_text plant used changed (BudgetSpent (Some plan) earned cap)
  unfolding answer_text
  spent_text plan earned cap = ap (λ (l : List ℕ). codes "# budget-spent " ++ (signed_decimal earned ++ (codes " " ++ (signed_decimal cap ++ (codes "\n" ++ (l ++ plan_lines plant plan)))))) is

  -- of a budget that was spent before a plan was found
  pub unsettled_text : (earned cap : ℤ) → codes "# budget-spent - " ++ (signed_decimal cap ++ (codes "\n" ++ lines)) ≡ answer_text plant used changed (BudgetSpent None earned cap)
  unfolding answer_text
  unsettled_text earned cap = ap (λ (l : List ℕ). codes "# budget-spent - " ++ (signed_decimal cap ++ (codes "\n" ++ l))) (is ∙ sym (append-nil (boxes_lines used changed)))
