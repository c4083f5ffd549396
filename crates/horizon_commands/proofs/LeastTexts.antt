-- The text of a least horizon, read as plan text, says the answer's plan.
use Rattle.std.proofs.Common.{◌≡◌, ℕ, ℤ, ◌<◌, ◌≤◌, ◌^◌, List, [], ◌∷◌, ◌++◌, length, codes, decimal, refl, sym, ap, subst, ◌∙◌, arith, append_assoc, length-append}
use Rattle.std.specs.Prelude.{All, Ok}
use Rattle.std.specs.Fmt.{signed_decimal}
use Rattle.std.proofs.lemmas.Fmt.{length-decimal-le_wide}
use Rattle.std.proofs.lemmas.List.{length-map}
use Rattle.stn_model.specs.declared.plant.Plant.{Plant}
use Rattle.stn_model.specs.declared.start.Start.{Start}
use Rattle.stn_model.specs.Sound.{Sound}
use Rattle.stn_model.specs.Feasible.{Feasible}
use Rattle.plan_text.specs.PlanLines.{plan_lines}
use Rattle.plan_text.specs.PlanText.{plan_of_text}
use Rattle.plan_text.specs.ReadsBack.{IsRemark, IsWritable}
use Rattle.plan_text.specs.Published.{most_lines}
use Rattle.least_horizon.specs.declared.answer.LeastAnswer.{LeastAnswer}
use Rattle.least_horizon.specs.declared.answer.LeastAnswer.TheVariants.{At, Nowhere, Open}
use Rattle.shorter_plant.specs.PlantAt.{plant_at, unit_until}
use Rattle.least_horizon.specs.Least.{IsRight}
use Rattle.shorter_plant.proofs.ShorterSound.{shorter_sound}
use Rattle.horizon_commands.specs.Seeking.{least_text, EarnsMoney, shown_plan}
use Rattle.answer_texts.specs.Planning.{IsMoney}
use Rattle.answer_texts.proofs.ReadBack.{AreRemarks, one_remark, both_remarks, decimal-remark, money-remark, two_lines, plain_word, after_word, few-starts, writable, reads-lines, reads-nothing}

-- a comment of a word and a number
numbered : (word : List ℕ) (n : ℕ) → IsRemark word → length word ≤ 20 → n < 10 ^ 6 → IsRemark (word ++ decimal n) × (length (word ++ decimal n) ≤ 100)
numbered word n plain short small =
    let digits = length-decimal-le_wide 6 n (omega arith) (omega arith) (omega arith) in
    let long = length-append word (decimal n) in
    (after_word word (decimal n) plain (decimal-remark n (omega arith)), omega (arith, digits, long, short))

-- a comment of a word and an amount
earning : (word : List ℕ) (earned : ℤ) → IsRemark word → length word ≤ 20 → IsMoney earned → IsRemark (word ++ signed_decimal earned) × (length (word ++ signed_decimal earned) ≤ 100)
earning word earned plain short money =
    let amount = money-remark earned money in
    let long = length-append word (signed_decimal earned) in
    (after_word word (signed_decimal earned) plain amount.0, omega (arith, amount.1, long, short))

-- a unit of the plant within a shorter horizon is one of the plant
pub unit-within : (plant : Plant) (horizon unit : ℕ) → unit < length (plant_at plant horizon).units → unit < length plant.units
unfolding plant_at
unit-within plant horizon unit within = subst (λ (n : ℕ). unit < n) (length-map plant.units (unit_until horizon)) within

-- the lines of a plan within a shorter horizon can be written
writable-within : (plant : Plant) (horizon : ℕ) (plan : List Start) → Sound (plant_at plant horizon) → Feasible (plant_at plant horizon) plan → All (IsWritable plant) plan
unfolding plant_at
writable-within plant horizon plan sound feasible k d within =
    let is = writable (plant_at plant horizon) plan sound feasible k d within in
    record { named = record { unit = unit-within plant horizon _ is.named.unit; task = is.named.task }; period = is.period; quanta = is.quanta }

-- and are as few as a text may have
few-within : (plant : Plant) (horizon : ℕ) (plan : List Start) → Sound (plant_at plant horizon) → Feasible (plant_at plant horizon) plan → length plan ≤ most_lines plant
unfolding plant_at
few-within plant horizon plan sound feasible = few-starts (plant_at plant horizon) plan sound feasible

-- a comment alone is a text of no starts
reads-comment : (plant : Plant) (remark : List ℕ) → Sound plant → IsRemark remark → length remark ≤ 100 → plan_of_text plant ((35 ∷ remark) ++ (10 ∷ [])) ≡ Ok []
unfolding plan_lines
reads-comment plant remark sound plain short = ap (plan_of_text plant) (simp append_assoc) ∙ reads-nothing plant (remark ∷ []) sound (one_remark remark plain short)

-- the text of a right answer says its plan
pub least-reads-back : (plant : Plant) (said : LeastAnswer) → Sound plant → IsRight plant said → EarnsMoney said → plan_of_text plant (least_text plant said) ≡ Ok (shown_plan said)
unfolding least_text
least-reads-back plant (At horizon earned plan) sound right money =
    let shorter = shorter_sound plant horizon sound right.0 in
    let feasible = right.1.1.0 in
    let first = numbered (codes " least ") horizon (plain_word (codes " least ") refl) (omega arith) (omega (arith, sound.counts.periods.1, right.0.1)) in
    let second = earning (codes " feasible ") earned (plain_word (codes " feasible ") refl) (omega arith) money in
    let remarks : AreRemarks ((codes " least " ++ decimal horizon) ∷ (codes " feasible " ++ signed_decimal earned) ∷ []) =
    both_remarks (codes " least " ++ decimal horizon) (codes " feasible " ++ signed_decimal earned) first.0 second.0 first.1 second.1 in
    ap (plan_of_text plant) (sym (two_lines (codes " least ") (decimal horizon) (codes " feasible ") (signed_decimal earned) (plan_lines plant plan)))
    ∙ reads-lines plant plan ((codes " least " ++ decimal horizon) ∷ (codes " feasible " ++ signed_decimal earned) ∷ []) sound
    (few-within plant horizon plan shorter feasible) (writable-within plant horizon plan shorter feasible) remarks
least-reads-back plant Nowhere sound right money = reads-comment plant (codes " no-horizon") sound (plain_word (codes " no-horizon") refl) (omega arith)
least-reads-back plant (Open horizon) sound right money =
    let remark = numbered (codes " open ") horizon (plain_word (codes " open ") refl) (omega arith) (omega (arith, sound.counts.periods.1, right.0.1)) in
    ap (plan_of_text plant) (ap (λ (x : List ℕ). 35 ∷ x) (sym (append_assoc (codes " open ") (decimal horizon) (10 ∷ [])))) ∙ reads-comment plant (codes " open " ++ decimal horizon) sound remark.0 remark.1
