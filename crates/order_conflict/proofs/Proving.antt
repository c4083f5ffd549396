-- The log that shows a conflict.
use Rattle.std.proofs.Common.{◌≡◌, ℕ, List, Option, inl, inr, refl, ap, sym, subst}
use Rattle.std.specs.Prelude.{Vec}
use Rattle.std.specs.Global.{Global}
use Rattle.std.specs.Option.{option_map}
use Rattle.std.specs.FinMap.{get}
use Rattle.stn_edge.specs.Files.{FileMap}
use Rattle.stn_model.specs.declared.plant.Plant.{Plant}
use Rattle.stn_model.specs.declared.answer.Answer.{Answer}
use Rattle.stn_model.specs.declared.answer.Answer.TheVariants.{Optimal, Infeasible, BudgetSpent}
use Rattle.stn_model.specs.declared.answer.Outcome.{Outcome}
use Rattle.stn_model.specs.Answers.{IsOutcome}
use Rattle.plan_told.specs.Proofs.{HasPlantProof, IsLeftOf, bytes_in}
use Rattle.order_text.specs.declared.mark.Mark.{Mark}
use Rattle.order_conflict.specs.declared.answer.ConflictAnswer.TheVariants.{Among}
use Rattle.order_conflict.specs.Conflict.{left_plant, AreMarks, IsConflict}
use Rattle.order_conflict.specs.Logged.{proved, FileStays, IsLogOf, HasOutcomeProof, LeavesStepLog}

-- files that are as before have each file as before
all_stay : (name : List ℕ) (old new : Option FileMap) → new ≡ old → FileStays name old new
all_stay name old new same = ap (λ (files : Option FileMap). option_map (λ m. get m name) files) same

left_cases : (plant : Plant) (budget : ℕ) (marks : List Mark) (name : List ℕ) (old new : Option FileMap) → AreMarks plant budget marks → IsLeftOf (left_plant plant marks) name old new → LeavesStepLog plant budget name old new
left_cases plant budget marks name old new are (inl same) = inl (all_stay name old new same)
left_cases plant budget marks name old new are (inr (program, (made, (means, inl same)))) = inl (all_stay name old new same)
left_cases plant budget marks name old new are (inr (program, (made, (means, inr begun)))) = inr (marks, (are, (program, (made, (means, begun)))))

-- what planning leaves that did not end is left of the answer
pub left_begun : (plant fewer : Plant) (budget : ℕ) (marks : List Mark) (name : List ℕ) (old new : Option FileMap) → fewer ≡ left_plant plant marks → AreMarks plant budget marks → IsLeftOf fewer name old new
    → LeavesStepLog plant budget name old new
left_begun plant fewer budget marks name old new is are left = left_cases plant budget marks name old new are (subst (λ (p : Plant). IsLeftOf p name old new) is left)

proved_cases : (plant : Plant) (budget used : ℕ) (marks : Vec Mark Global) (name : List ℕ) (old new : Option FileMap) (a : Answer) → IsConflict plant budget (Among marks)
    → HasOutcomeProof (left_plant plant marks.items) budget (bytes_in name new) (record { answer = a; boxes = used }) → IsLogOf plant budget name old new (proved a marks)
proved_cases plant budget used marks name old new (Optimal plan earned) right proof = (right, record { outcome = record { answer = Optimal plan earned; boxes = used }; proved = proof; says = λ e. absurd cc })
proved_cases plant budget used marks name old new Infeasible right proof = (right, record { outcome = record { answer = Infeasible; boxes = used }; proved = proof; says = refl })
proved_cases plant budget used marks name old new (BudgetSpent plan earned cap) right proof = (right, record { outcome = record { answer = BudgetSpent plan earned cap; boxes = used }; proved = proof; says = λ e. absurd cc })

-- the log that was written is that of the answer
pub proved_log : (plant fewer : Plant) (budget used : ℕ) (marks : Vec Mark Global) (name : List ℕ) (old new : Option FileMap) (a : Answer) → fewer ≡ left_plant plant marks.items → IsConflict plant budget (Among marks)
    → IsOutcome fewer budget (record { answer = a; boxes = used }) → HasPlantProof fewer (bytes_in name new) (record { answer = a; boxes = used }) → IsLogOf plant budget name old new (proved a marks)
proved_log plant fewer budget used marks name old new a is right outcome proof =
    proved_cases plant budget used marks name old new a right
    (subst (λ (p : Plant). HasOutcomeProof p budget (bytes_in name new) (record { answer = a; boxes = used })) is (record { right = outcome; proof = proof }))
