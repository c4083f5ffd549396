-- The plan of a claim that holds, and its text.
use Rattle.std.proofs.Common.{◌≡◌, refl, ℕ, ℤ, zero, suc, ◌≤◌, ◌-◌, List, [], ◌∷◌, ◌++◌, length, take, replicate, append_assoc, sym, ap, ◌∙◌, subst, arith, codes, length-append, append-nil, inl, inr, Ok, Err}
use Rattle.std.specs.Prelude.{◌==◌, All, IsPermutation, IfOk, Result}
use Rattle.std.specs.Fmt.{signed_decimal}
use Rattle.std.proofs.lemmas.Bool.{cases_Bool}
use Rattle.std.proofs.lemmas.List.Sorted.{All-permutation, length_permutation}
use Rattle.stn_model.specs.declared.plant.Plant.{Plant}
use Rattle.stn_model.specs.declared.start.Start.{Start}
use Rattle.stn_model.specs.Feasible.{Feasible}
use Rattle.stn_model.specs.Sound.{Sound}
use Rattle.time_grid.specs.PlanPoint.{IsPlanOf, point_starts}
use Rattle.time_grid.specs.Slots.{slots}
use Rattle.row_set.specs.Parts.{plan_of_values}
use Rattle.plan_text.specs.PlanLines.{plan_lines}
use Rattle.plan_text.specs.PlanText.{plan_of_text}
use Rattle.plan_text.specs.Published.{most_lines}
use Rattle.plan_text.specs.ReadsBack.{IsRemark, IsWritable, comment_lines}
use Rattle.proof_log.specs.declared.claim.Claim.{Claim}
use Rattle.proof_log.specs.declared.claim.Claim.TheVariants.{Optimal, Infeasible, Between, Below}
use Rattle.answer_texts.specs.Checking.{claim_words}
use Rattle.answer_texts.specs.Planning.{IsMoney}
use Rattle.answer_texts.proofs.ReadBack.{AreRemarks, after_word, few-starts, money-remark, one_remark, plain_word, reads-lines, writable}
use Rattle.log_commands.specs.Amounts.{IsClaimInMoney}
use Rattle.log_commands.specs.Showing.{claim_comment, IsClaimedPlan, IsPlanText}

-- ---- the plan of a point

-- zeros are no starts
no-starts : (plant : Plant) (grid : List (ℕ × ℕ)) (n : ℕ) → point_starts plant grid (replicate n 0) ≡ []
no-starts plant [] n = refl
no-starts plant (slot ∷ grid) zero = refl
no-starts plant (slot ∷ grid) (suc n) = no-starts plant grid n

-- values behind those of the slots, and zeros in the place of those that are not there, change no start
padded-starts : (plant : Plant) (grid : List (ℕ × ℕ)) (values : List ℕ) (n rest : ℕ) → length grid ≤ n → point_starts plant grid (take n values ++ replicate rest 0) ≡ point_starts plant grid values
padded-starts plant [] values n rest enough = refl
padded-starts plant (slot ∷ grid) [] zero rest enough = absurd (omega arith)
padded-starts plant (slot ∷ grid) [] (suc n) rest enough = no-starts plant (slot ∷ grid) rest
padded-starts plant (slot ∷ grid) (value ∷ values) zero rest enough = absurd (omega arith)
padded-starts plant (slot ∷ grid) (value ∷ values) (suc n) rest enough =
    let more = padded-starts plant grid values n rest (omega arith) in
    elim (cases_Bool (value == 0)) [ inl is ↦ rw (is, more) refl | inr is ↦ rw (is, more) refl ]

-- so the plan of the padded point is that of the point
pub padded-plan : (plant : Plant) (point values : List ℕ) (count : ℕ) (plan : List Start) → count ≡ length (slots plant) → values ≡ take count point ++ replicate (count - length point) 0
    → IsPlanOf plant values plan → IsPlanOf plant point plan
padded-plan plant point values count plan is padded of = record {
  starts = subst (λ (starts : List Start). IsPermutation starts plan)
      (ap (point_starts plant (slots plant)) padded ∙ padded-starts plant (slots plant) point count (count - length point) (omega (arith, is))) of.starts;
  ordered = of.ordered;
}

-- it can be written where it is feasible
pub plan-writable : (plant : Plant) (point : List ℕ) (plan : List Start) → Sound plant → Feasible plant (plan_of_values plant point) → IsPlanOf plant point plan → All (IsWritable plant) plan
unfolding plan_of_values
plan-writable plant point plan sound feasible of =
    All-permutation (IsWritable plant) (point_starts plant (slots plant) point) plan of.starts (writable plant (plan_of_values plant point) sound feasible)

-- and is short
pub plan-few : (plant : Plant) (point : List ℕ) (plan : List Start) → Sound plant → Feasible plant (plan_of_values plant point) → IsPlanOf plant point plan → length plan ≤ most_lines plant
unfolding plan_of_values
plan-few plant point plan sound feasible of =
    let same = length_permutation (point_starts plant (slots plant) point) plan of.starts in
    let few = few-starts plant (plan_of_values plant point) sound feasible in
    omega (arith, same, few)

-- the same of a plan that may not have been made
pub padded-if : {E : Type 0} (plant : Plant) (point values : List ℕ) (count : ℕ) (r : Result (List Start) E) → count ≡ length (slots plant) → values ≡ take count point ++ replicate (count - length point) 0
    → IfOk r (IsPlanOf plant values) → IfOk r (IsPlanOf plant point)
padded-if plant point values count (Ok plan) is padded of = padded-plan plant point values count plan is padded of
padded-if plant point values count (Err e) is padded of = tt

pub writable-if : {E : Type 0} (plant : Plant) (point : List ℕ) (r : Result (List Start) E) → Sound plant → Feasible plant (plan_of_values plant point) → IfOk r (IsPlanOf plant point)
    → IfOk r (λ plan. All (IsWritable plant) plan)
writable-if plant point (Ok plan) sound feasible of = plan-writable plant point plan sound feasible of
writable-if plant point (Err e) sound feasible of = tt

pub few-if : {E : Type 0} (plant : Plant) (point : List ℕ) (r : Result (List Start) E) → Sound plant → Feasible plant (plan_of_values plant point) → IfOk r (IsPlanOf plant point)
    → IfOk r (λ plan. length plan ≤ most_lines plant)
few-if plant point (Ok plan) sound feasible of = plan-few plant point plan sound feasible of
few-if plant point (Err e) sound feasible of = tt

-- ---- the comment

-- the words of a claim
abbrev claim_remark : Claim → List ℕ
claim_remark (Optimal earned point) = codes " optimal " ++ signed_decimal earned
claim_remark Infeasible = codes " infeasible"
claim_remark (Between earned most point) = codes " between " ++ (signed_decimal earned ++ (codes " " ++ signed_decimal most))
claim_remark (Below most) = codes " below " ++ signed_decimal most

-- they are the comment
comment-is : (claim : Claim) → claim_comment claim ≡ comment_lines (claim_remark claim ∷ [])
unfolding claim_words
comment-is (Optimal earned point) = ap (λ (x : List ℕ). codes "# optimal " ++ x) (sym (append-nil (signed_decimal earned ++ codes "\n")))
comment-is Infeasible = refl
comment-is (Between earned most point) =
    let words = signed_decimal earned ++ (codes " " ++ signed_decimal most) in
    ap (λ (x : List ℕ). codes "# between " ++ x) (sym (append-nil (words ++ codes "\n") ∙ append_assoc (signed_decimal earned) (codes " " ++ signed_decimal most) (codes "\n")))
comment-is (Below most) = ap (λ (x : List ℕ). codes "# below " ++ x) (sym (append-nil (signed_decimal most ++ codes "\n")))

-- the words of an amount
amount-remark : (word : List ℕ) (amount : ℤ) → IsRemark word → length word ≤ 20 → IsMoney amount → IsRemark (word ++ signed_decimal amount) × (length (word ++ signed_decimal amount) ≤ 60)
amount-remark word amount plain short small =
    let digits = money-remark amount small in
    (after_word word (signed_decimal amount) plain digits.0, omega (arith, length-append word (signed_decimal amount), digits.1, short))

-- the comment has no line feed, and is short
claim-remarks : (claim : Claim) → IsClaimInMoney claim → AreRemarks (claim_remark claim ∷ [])
claim-remarks (Optimal earned point) small =
    let words = amount-remark (codes " optimal ") earned (plain_word (codes " optimal ") refl) (omega arith) small in
    one_remark (claim_remark (Optimal earned point)) words.0 (omega (arith, words.1))
claim-remarks Infeasible small = one_remark (codes " infeasible") (plain_word (codes " infeasible") refl) (omega arith)
claim-remarks (Between earned most point) small =
    let first = money-remark earned small.0 in
    let second = money-remark most small.1 in
    let rest = after_word (signed_decimal earned) (codes " " ++ signed_decimal most) first.0 (after_word (codes " ") (signed_decimal most) (plain_word (codes " ") refl) second.0) in
    let long = length-append (signed_decimal earned) (codes " " ++ signed_decimal most) in
    let whole = length-append (codes " between ") (signed_decimal earned ++ (codes " " ++ signed_decimal most)) in
    one_remark (claim_remark (Between earned most point)) (after_word (codes " between ") (signed_decimal earned ++ (codes " " ++ signed_decimal most)) (plain_word (codes " between ") refl) rest)
    (omega (arith, long, whole, first.1, second.1))
claim-remarks (Below most) small =
    let words = amount-remark (codes " below ") most (plain_word (codes " below ") refl) (omega arith) small in
    one_remark (claim_remark (Below most)) words.0 (omega (arith, words.1))

-- the text on a claim, read as plan text, says its plan
pub reads-claim : (plant : Plant) (claim : Claim) (plan : List Start) (text : List ℕ) → Sound plant → length plan ≤ most_lines plant → All (IsWritable plant) plan → IsClaimInMoney claim
    → text ≡ claim_comment claim ++ plan_lines plant plan → plan_of_text plant text ≡ Ok plan
reads-claim plant claim plan text sound few can small is =
    ap (plan_of_text plant) (is ∙ ap (λ (x : List ℕ). x ++ plan_lines plant plan) (comment-is claim))
    ∙ reads-lines plant plan (claim_remark claim ∷ []) sound few can (claim-remarks claim small)

-- so it is the text on the claim
pub shown-text : (plant : Plant) (claim : Claim) (plan : List Start) (head text : List ℕ) → Sound plant → IsClaimedPlan plant claim plan → All (IsWritable plant) plan → length plan ≤ most_lines plant → IsClaimInMoney claim
    → head ≡ claim_comment claim → text ≡ head ++ plan_lines plant plan → IsPlanText plant claim text
shown-text plant claim plan head text sound of can few small is put =
    let whole = put ∙ ap (λ (x : List ℕ). x ++ plan_lines plant plan) is in
    record { plan = plan; of_claim = of; text_is = whole; reads_back = reads-claim plant claim plan text sound few can small whole }
