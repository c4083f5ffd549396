-- How the line of a start is put together.
use Rattle.std.proofs.Common.{◌≡◌, ℕ, List, [], ◌∷◌, ◌++◌, decimal, sym, ap, ◌∙◌, append_assoc, slice_index_or}
use Rattle.std.specs.List.{join_with_byte}
use Rattle.std.proofs.lemmas.List.{get_or-map}
use Rattle.stn_model.specs.declared.plant.Plant.{Plant}
use Rattle.stn_model.specs.declared.plant.StnUnit.{StnUnit}
use Rattle.stn_model.specs.declared.plant.Task.{Task}
use Rattle.stn_model.specs.declared.start.Start.{Start}
use Rattle.stn_model.specs.Plant.{unit_names, task_names}
use Rattle.plan_text.specs.PlanLines.{IsNamed, start_words, plan_line}

-- seven parts in a row, one by one
seven_parts : (text p u t b q e : List ℕ) → (((((text ++ p) ++ u) ++ t) ++ b) ++ q) ++ e ≡ text ++ (p ++ (u ++ (t ++ (b ++ (q ++ e)))))
seven_parts text p u t b q e = simp append_assoc

-- four words with a blank between each two, and an end
four_words : (p u t q e : List ℕ) → join_with_byte 32 (p ∷ u ∷ t ∷ q ∷ []) ++ e ≡ p ++ (32 ∷ (u ++ (32 ∷ (t ++ (32 ∷ (q ++ e))))))
four_words p u t q e =
    append_assoc p (32 ∷ (u ++ (32 ∷ (t ++ (32 ∷ q))))) e
    ∙ ap (λ (x : List ℕ). p ++ (32 ∷ x)) (append_assoc u (32 ∷ (t ++ (32 ∷ q))) e
    ∙ ap (λ (x : List ℕ). u ++ (32 ∷ x)) (append_assoc t (32 ∷ q) e))

-- the parts of a line, one by one, are the line
pub plan_line-parts : (plant : Plant) (start : Start) (text : List ℕ) (unit : StnUnit) (task : Task) → IsNamed plant start
    → (((((text ++ decimal start.period) ++ (32 ∷ (slice_index_or plant.units start.unit unit).name)) ++ (32 ∷ (slice_index_or plant.tasks start.task task).name)) ++ (32 ∷ [])) ++ decimal start.quanta) ++ (10 ∷ []) ≡ text ++ plan_line plant start
unfolding plan_line start_words
plan_line-parts plant start text unit task named =
    rw (← get_or-map (λ (u : StnUnit). u.name) plant.units start.unit unit [] named.unit)
    (rw (← get_or-map (λ (t : Task). t.name) plant.tasks start.task task [] named.task)
    (seven_parts text (decimal start.period) (32 ∷ slice_index_or (unit_names plant) start.unit []) (32 ∷ slice_index_or (task_names plant) start.task []) (32 ∷ []) (decimal start.quanta) (10 ∷ [])
    ∙ ap (λ (x : List ℕ). text ++ x) (sym (four_words (decimal start.period) _ _ (decimal start.quanta) (10 ∷ [])))))

-- the same, step by step: each text is the one before and one part more
pub plan_line-written : (plant : Plant) (start : Start) (unit : StnUnit) (task : Task) → IsNamed plant start
    → unit ≡ slice_index_or plant.units start.unit unit → task ≡ slice_index_or plant.tasks start.task task
    → (text a b c d e f : List ℕ) → a ≡ text ++ decimal start.period → b ≡ a ++ (32 ∷ unit.name) → c ≡ b ++ (32 ∷ task.name) → d ≡ c ++ (32 ∷ []) → e ≡ d ++ decimal start.quanta → f ≡ e ++ (10 ∷ [])
    → f ≡ text ++ plan_line plant start
plan_line-written plant start unit task named is_unit is_task text a b c d e f at_a at_b at_c at_d at_e at_f =
    let parts = plan_line-parts plant start text unit task named in cc
