-- The text of an answer, read as plan text, says the answer's plan.
use Rattle.std.proofs.Common.{◌≡◌, ◌≢◌, ℕ, ℤ, pos, negsuc, suc, Bool, true, false, cond, inl, inr, ◌+◌, ◌%◌, ◌<◌, ◌≤◌, ◌^◌, List, [], ◌∷◌, ◌++◌, length, get_or, Option, Some, None, codes, decimal, sym, ap, ◌∙◌, refl, arith, append_assoc, length-append}
use Rattle.std.proofs.lemmas.List.{append-nil}
use Rattle.std.specs.Prelude.{All, Ok, IfSome}
use Rattle.std.specs.Fmt.{signed_decimal}
use Rattle.std.specs.List.{list_all}
use Rattle.std.specs.Prelude.{not, ◌==◌}
use Rattle.std.proofs.lemmas.List.Recursion.{and_at}
use Rattle.std.proofs.lemmas.List.Sorted.{length_permutation}
use Rattle.std.proofs.lemmas.Bool.{false≢true, cases_Bool}
use Rattle.std.proofs.lemmas.List.Elements.{All-append, All-cons}
use Rattle.std.proofs.lemmas.Fmt.{decimal_by_steps_wide, length-decimal-le_wide}
use Rattle.stn_model.specs.declared.plant.Plant.{Plant}
use Rattle.stn_model.specs.declared.start.Start.{Start}
use Rattle.stn_model.specs.declared.answer.Answer.{Answer}
use Rattle.stn_model.specs.declared.answer.Answer.TheVariants.{Optimal, Infeasible, BudgetSpent}
use Rattle.stn_model.specs.Sound.{Sound}
use Rattle.stn_model.specs.Fits.{Fits}
use Rattle.stn_model.specs.Feasible.{Feasible}
use Rattle.stn_model.specs.declared.answer.Outcome.{Outcome}
use Rattle.stn_model.specs.Answers.{IsAnswerOf, IsOutcomeOf}
use Rattle.command_replies.specs.declared.reply.Reply.{Reply}
use Rattle.std.specs.Prelude.{Result, Err, IfOk}
use Rattle.time_grid.specs.Slots.{slots}
use Rattle.time_grid.specs.PlanPoint.{plan_point, point_starts}
use Rattle.time_grid.proofs.SlotList.{length-slots}
use Rattle.stn_model.proofs.Fitting.{ends_later, fit_parts}
use Rattle.time_grid.proofs.OnePlan.{starts-permutation, has_point-feasible}
use Rattle.time_grid.proofs.PlanPoints.{quanta_most}
use Rattle.plan_text.specs.PlanLines.{plan_lines}
use Rattle.plan_text.specs.PlanText.{plan_of_text}
use Rattle.plan_text.specs.ReadsBack.{IsRemark, comment_lines, IsWritable, ReadsBack}
use Rattle.plan_text.proofs.Again.{ReadsBack-lines}
use Rattle.plan_text.proofs.Short.{lines_fit, short-lines}
use Rattle.plan_text.specs.Published.{most_lines}
use Rattle.stn_model.specs.Points.{slot_count}
use Rattle.answer_texts.specs.Planning.{answer_text, boxes_lines, changed_line, profit_word, status_of, printed_plan, IsMoney, IsInMoney, Planned}
use Rattle.answer_texts.proofs.Named.{named-Feasible}

-- ---- numbers

-- one byte that is no line feed
one_byte : (byte : ℕ) → byte ≢ 10 → IsRemark (byte ∷ [])
one_byte byte differs = All-cons (λ b. b ≢ 10) byte [] differs (λ k d within. absurd (omega arith))

-- what is printed of a number has no line feed
pub decimal-remark : (n : ℕ) → n < 10 ^ 64 → IsRemark (decimal n)
decimal-remark n small =
    decimal_by_steps_wide (λ m digits. IsRemark digits)
    (λ m less. one_byte (48 + m) (λ same. omega arith))
    (λ m digits least is. All-append (λ b. b ≢ 10) digits ((48 + m % 10) ∷ []) is (one_byte (48 + m % 10) (λ same. omega arith)))
    n small

-- what is printed of an amount of money has no line feed, and at most 40 bytes
pub money-remark : (amount : ℤ) → IsMoney amount → IsRemark (signed_decimal amount) × (length (signed_decimal amount) ≤ 40)
money-remark (pos n) small = (decimal-remark n (omega arith), (let l = length-decimal-le_wide 39 n (omega arith) (omega arith) (omega arith) in omega arith))
money-remark (negsuc n) small = (
  All-cons (λ b. b ≢ 10) 45 (decimal (suc n)) (λ same. omega arith) (decimal-remark (suc n) (omega arith)),
  (let l = length-decimal-le_wide 39 (suc n) (omega arith) (omega arith) (omega arith) in omega arith),
)

-- ---- lines

-- the part of a line that is a comment, before what follows
remark_line : (first second rest : List ℕ) → ((35 ∷ (first ++ second)) ++ 10 ∷ []) ++ rest ≡ (35 ∷ first) ++ (second ++ (10 ∷ rest))
remark_line first second rest = ap (λ (x : List ℕ). 35 ∷ x) (append_assoc (first ++ second) (10 ∷ []) rest ∙ append_assoc first second (10 ∷ rest))

-- comments and a text, of which two comments are told in parts
pub first_lines : (a b e f : List ℕ) (rest : List (List ℕ)) (text : List ℕ) → comment_lines ((a ++ b) ∷ (e ++ f) ∷ rest) ++ text ≡ (35 ∷ a) ++ (b ++ (10 ∷ ((35 ∷ e) ++ (f ++ (10 ∷ (comment_lines rest ++ text))))))
first_lines a b e f rest text = simp append_assoc

-- two comments and a text
pub two_lines : (a b e f text : List ℕ) → comment_lines ((a ++ b) ∷ (e ++ f) ∷ []) ++ text ≡ (35 ∷ a) ++ (b ++ (10 ∷ ((35 ∷ e) ++ (f ++ (10 ∷ text)))))
two_lines a b e f text = first_lines a b e f [] text

-- the comment on the answer
abbrev first_remark : Answer → List ℕ
first_remark (Optimal plan earned) = codes " optimal " ++ signed_decimal earned
first_remark Infeasible = codes " infeasible" ++ []
first_remark (BudgetSpent plan earned bound) = codes " budget-spent " ++ (profit_word plan earned ++ (codes " " ++ signed_decimal bound))

-- the comment on the starts that have changed, where they are counted
abbrev changed_remarks : Option ℕ → List (List ℕ)
changed_remarks None = []
changed_remarks (Some count) = (codes " changed " ++ decimal count) ∷ []

-- the comments of an answer
abbrev remarks : Answer → ℕ → Option ℕ → List (List ℕ)
remarks answer used changed = first_remark answer ∷ (codes " boxes " ++ decimal used) ∷ changed_remarks changed

-- the line of the starts that have changed is their comment
changed_then : (changed : Option ℕ) → changed_line changed ≡ comment_lines (changed_remarks changed)
changed_then None = refl
changed_then (Some count) = simp append_assoc

-- the lines of the boxes and of the starts that have changed, before what follows
boxes_then : (used : ℕ) (changed : Option ℕ) (lines : List ℕ) → boxes_lines used changed ++ lines ≡ codes "# boxes " ++ (decimal used ++ (10 ∷ (comment_lines (changed_remarks changed) ++ lines)))
boxes_then used changed lines =
    append_assoc (codes "# boxes ") (decimal used ++ (codes "\n" ++ changed_line changed)) lines
    ∙ ap (λ (x : List ℕ). codes "# boxes " ++ x) (append_assoc (decimal used) (codes "\n" ++ changed_line changed) lines)
    ∙ ap (λ (x : List ℕ). codes "# boxes " ++ (decimal used ++ (10 ∷ (x ++ lines)))) (changed_then changed)

-- the lines of an answer under a spent budget
spent_lines : (word bound : List ℕ) (used : ℕ) (changed : Option ℕ) (lines : List ℕ) → codes "# budget-spent " ++ (word ++ (codes " " ++ (bound ++ (codes "\n" ++ (boxes_lines used changed ++ lines)))))
    ≡ comment_lines ((codes " budget-spent " ++ (word ++ (codes " " ++ bound))) ∷ (codes " boxes " ++ decimal used) ∷ changed_remarks changed) ++ lines
spent_lines word bound used changed lines =
    let later = 10 ∷ (codes "# boxes " ++ (decimal used ++ (10 ∷ (comment_lines (changed_remarks changed) ++ lines)))) in
    ap (λ (x : List ℕ). codes "# budget-spent " ++ (word ++ (codes " " ++ (bound ++ (10 ∷ x))))) (boxes_then used changed lines)
    ∙ ap (λ (x : List ℕ). codes "# budget-spent " ++ x) (sym (append_assoc word (codes " " ++ bound) later))
    ∙ sym (first_lines (codes " budget-spent ") (word ++ (codes " " ++ bound)) (codes " boxes ") (decimal used) (changed_remarks changed) lines)

-- the text of an answer is its comments and the lines of its plan
answer-lines : (plant : Plant) (used : ℕ) (changed : Option ℕ) (answer : Answer) → answer_text plant used changed answer ≡ comment_lines (remarks answer used changed) ++ plan_lines plant (printed_plan answer)
unfolding answer_text plan_lines
answer-lines plant used changed (Optimal plan earned) =
    ap (λ (x : List ℕ). codes "# optimal " ++ (signed_decimal earned ++ (10 ∷ x))) (boxes_then used changed (plan_lines plant plan))
    ∙ sym (first_lines (codes " optimal ") (signed_decimal earned) (codes " boxes ") (decimal used) (changed_remarks changed) (plan_lines plant plan))
answer-lines plant used changed Infeasible =
    ap (λ (x : List ℕ). codes "# infeasible\n" ++ x) (sym (append-nil (boxes_lines used changed)) ∙ boxes_then used changed [])
    ∙ sym (first_lines (codes " infeasible") [] (codes " boxes ") (decimal used) (changed_remarks changed) [])
answer-lines plant used changed (BudgetSpent None earned bound) = spent_lines (codes "-") (signed_decimal bound) used changed []
answer-lines plant used changed (BudgetSpent (Some plan) earned bound) = spent_lines (signed_decimal earned) (signed_decimal bound) used changed (plan_lines plant plan)

-- the comments have no line feed, and are short
pub record AreRemarks (lines : List (List ℕ)) : Type 0 where
  pub plain : All IsRemark lines
  pub short : length (comment_lines lines) ≤ 300

-- a remark of at most 100 bytes
pub one_remark : (a : List ℕ) → IsRemark a → length a ≤ 100 → AreRemarks (a ∷ [])
one_remark a plain short = record {
  plain = All-cons IsRemark a [] plain (λ k d within. absurd (omega arith));
  short =
      let l = length-append ((35 ∷ a) ++ 10 ∷ []) [] in
      let m = length-append (35 ∷ a) (10 ∷ []) in
      omega (arith, l, m, short);
}

-- two remarks of at most 100 bytes
pub both_remarks : (a b : List ℕ) → IsRemark a → IsRemark b → length a ≤ 100 → length b ≤ 100 → AreRemarks (a ∷ b ∷ [])
both_remarks a b plain_a plain_b short_a short_b = record {
  plain = All-cons IsRemark a (b ∷ []) plain_a (All-cons IsRemark b [] plain_b (λ k d within. absurd (omega arith)));
  short =
      let l = length-append ((35 ∷ a) ++ 10 ∷ []) (((35 ∷ b) ++ 10 ∷ []) ++ []) in
      let m = length-append (35 ∷ a) (10 ∷ []) in
      let n = length-append ((35 ∷ b) ++ 10 ∷ []) [] in
      let o = length-append (35 ∷ b) (10 ∷ []) in
      omega (arith, l, m, n, o);
}

-- and one more of at most 50
three_remarks : (a b e : List ℕ) → IsRemark a → IsRemark b → IsRemark e → length a ≤ 100 → length b ≤ 100 → length e ≤ 50 → AreRemarks (a ∷ b ∷ e ∷ [])
three_remarks a b e plain_a plain_b plain_e short_a short_b short_e = record {
  plain = All-cons IsRemark a (b ∷ e ∷ []) plain_a (All-cons IsRemark b (e ∷ []) plain_b (All-cons IsRemark e [] plain_e (λ k d within. absurd (omega arith))));
  short =
      let l = length-append ((35 ∷ a) ++ 10 ∷ []) (((35 ∷ b) ++ 10 ∷ []) ++ (((35 ∷ e) ++ 10 ∷ []) ++ [])) in
      let m = length-append (35 ∷ a) (10 ∷ []) in
      let n = length-append ((35 ∷ b) ++ 10 ∷ []) (((35 ∷ e) ++ 10 ∷ []) ++ []) in
      let o = length-append (35 ∷ b) (10 ∷ []) in
      let p = length-append ((35 ∷ e) ++ 10 ∷ []) [] in
      let q = length-append (35 ∷ e) (10 ∷ []) in
      omega (arith, l, m, n, o, p, q);
}

-- a word without a line feed
pub plain_word : (word : List ℕ) → list_all (λ b. not (b == 10)) word ≡ true → IsRemark word
plain_word word is = λ k d within same.
    let test : not (get_or word k d == 10) ≡ true = and_at (list_all (λ b. not (b == 10))) (λ b. not (b == 10)) refl (λ _ _. refl) word k d within is in
    false≢true (ap (λ b. not (b == 10)) (sym same) ∙ test)

-- a word followed by another remark
pub after_word : (word rest : List ℕ) → IsRemark word → IsRemark rest → IsRemark (word ++ rest)
after_word word rest plain_word plain_rest = All-append (λ b. b ≢ 10) word rest plain_word plain_rest

-- the profit of a plan that may be there
profit-remark : (plan : Option (List Start)) (earned : ℤ) → IsMoney earned → IsRemark (profit_word plan earned) × (length (profit_word plan earned) ≤ 40)
profit-remark None earned small = (plain_word (codes "-") refl, omega arith)
profit-remark (Some plan) earned small = money-remark earned small

-- the comment on the answer
first-remark : (answer : Answer) → IsInMoney answer → IsRemark (first_remark answer) × (length (first_remark answer) ≤ 100)
first-remark (Optimal plan earned) small =
    let amount = money-remark earned small in
    let long = length-append (codes " optimal ") (signed_decimal earned) in
    (after_word (codes " optimal ") (signed_decimal earned) (plain_word (codes " optimal ") refl) amount.0, omega (arith, long, amount.1))
first-remark Infeasible small = (plain_word (codes " infeasible") refl, omega arith)
first-remark (BudgetSpent plan earned bound) small =
    let amount = profit-remark plan earned small.0 in
    let most = money-remark bound small.1 in
    let long = length-append (codes " budget-spent ") (profit_word plan earned ++ (codes " " ++ signed_decimal bound)) in
    let later = length-append (profit_word plan earned) (codes " " ++ signed_decimal bound) in (
      after_word (codes " budget-spent ") (profit_word plan earned ++ (codes " " ++ signed_decimal bound)) (plain_word (codes " budget-spent ") refl)
          (after_word (profit_word plan earned) (codes " " ++ signed_decimal bound) amount.0 (after_word (codes " ") (signed_decimal bound) (plain_word (codes " ") refl) most.0)),
      omega (arith, long, later, amount.1, most.1),
    )

-- the comment of a number
number-remark : (word : List ℕ) (n : ℕ) → IsRemark word → n < 2 ^ 64 → IsRemark (word ++ decimal n) × (length (word ++ decimal n) ≤ length word + 20)
number-remark word n plain small =
    let digits = length-decimal-le_wide 20 n (omega (arith, small)) (omega arith) (omega arith) in
    let long = length-append word (decimal n) in
    (after_word word (decimal n) plain (decimal-remark n (omega (arith, small))), omega (arith, long, digits))

-- the starts that have changed are fewer than 2 ^ 32, where they are counted
abbrev pub IsFew : Option ℕ → Type 0
IsFew changed = IfSome changed (λ count. count < 2 ^ 32)

-- the comments of an answer
are_remarks : (answer : Answer) (used : ℕ) (changed : Option ℕ) → IsInMoney answer → used < 2 ^ 64 → IsFew changed → AreRemarks (remarks answer used changed)
are_remarks answer used None small few count =
    let first = first-remark answer small in
    let boxes = number-remark (codes " boxes ") used (plain_word (codes " boxes ") refl) few in
    both_remarks (first_remark answer) (codes " boxes " ++ decimal used) first.0 boxes.0 first.1 (omega (arith, boxes.1))
are_remarks answer used (Some count) small few fewer =
    let first = first-remark answer small in
    let boxes = number-remark (codes " boxes ") used (plain_word (codes " boxes ") refl) few in
    let changed = number-remark (codes " changed ") count (plain_word (codes " changed ") refl) (omega (arith, fewer)) in
    three_remarks (first_remark answer) (codes " boxes " ++ decimal used) (codes " changed " ++ decimal count) first.0 boxes.0 changed.0 first.1 (omega (arith, boxes.1)) (omega (arith, changed.1))

-- ---- the plan

-- the starts of a point are no more than its slots
pub length-point_starts : (plant : Plant) (grid : List (ℕ × ℕ)) (values : List ℕ) → length (point_starts plant grid values) ≤ length grid
length-point_starts plant [] values = omega arith
length-point_starts plant (slot ∷ grid) [] = omega arith
length-point_starts plant (slot ∷ grid) (value ∷ values) =
    let more = length-point_starts plant grid values in
    elim (cases_Bool (value == 0)) [ inl is ↦ rw is (omega (arith, more)) | inr is ↦ rw is (omega (arith, more)) ]

-- a number of slots is within the lines of a plan text, of a large plant and of another
within-lines : (large : Bool) (n : ℕ) → n ≤ 4096 → (large ≡ false → n ≤ 512) → n ≤ cond large 4096 2048
within-lines true n most small = most
within-lines false n most small = let few = small refl in omega (arith, few)

-- a plant has no more slots than a plan text for it may have starts
slots-few : (plant : Plant) → Sound plant → slot_count plant ≤ most_lines plant
slots-few plant sound = within-lines plant.large (slot_count plant) sound.counts.slots (λ is. (sound.small is).slots)

-- a feasible plan has no more starts than a plan text for the plant may have
pub few-starts : (plant : Plant) (plan : List Start) → Sound plant → Feasible plant plan → length plan ≤ most_lines plant
few-starts plant plan sound feasible =
    let point = point_starts plant (slots plant) (plan_point plant plan) in
    let same = length_permutation plan point (starts-permutation plant plan sound (has_point-feasible plant plan sound feasible)) in
    let few = length-point_starts plant (slots plant) (plan_point plant plan) in
    let all = length-slots plant in
    let most = slots-few plant sound in
    omega (arith, same, few, all, most)

-- a start that fits has numbers of at most three digits
record IsSmallStart (start : Start) : Type 0 where
  period : start.period ≤ 336
  quanta : start.quanta ≤ 255

-- each start of a feasible plan is small and can be written
small-start : (plant : Plant) (start : Start) → Sound plant → Fits plant start → IsSmallStart start
small-start plant start sound fits =
    let later = ends_later plant start sound fits in
    let ends = (fit_parts plant start fits).ends in
    let most = sound.counts.periods in
    record { period = omega (arith, later, ends, most.1); quanta = quanta_most plant start sound fits }

pub writable : (plant : Plant) (plan : List Start) → Sound plant → Feasible plant plan → All (IsWritable plant) plan
writable plant plan sound feasible k d within =
    let named = named-Feasible plant plan sound feasible k d within in
    let small = small-start plant (get_or plan k d) sound (feasible.fits k d within) in
    record { named = named; period = omega (arith, small.period); quanta = omega (arith, small.quanta) }

-- ---- the answer

-- the lines of few starts that can be written, after short remarks, say the plan
pub reads-lines : (plant : Plant) (plan : List Start) (lines : List (List ℕ)) → Sound plant → length plan ≤ most_lines plant → All (IsWritable plant) plan → AreRemarks lines
    → plan_of_text plant (comment_lines lines ++ plan_lines plant plan) ≡ Ok plan
unfolding ReadsBack
reads-lines plant plan lines sound few can are =
    let long = short-lines plant plan sound can in
    let whole = lines_fit plant.large (length plan) (length (plan_lines plant plan)) (length (comment_lines lines)) few long are.short in
    ReadsBack-lines plant plan sound few can lines are.plain (omega (arith, whole, length-append (comment_lines lines) (plan_lines plant plan)))

-- the lines of a feasible plan
reads-feasible : (plant : Plant) (plan : List Start) (lines : List (List ℕ)) → Sound plant → Feasible plant plan → AreRemarks lines → plan_of_text plant (comment_lines lines ++ plan_lines plant plan) ≡ Ok plan
reads-feasible plant plan lines sound feasible are = reads-lines plant plan lines sound (few-starts plant plan sound feasible) (writable plant plan sound feasible) are

-- no lines
pub reads-nothing : (plant : Plant) (lines : List (List ℕ)) → Sound plant → AreRemarks lines → plan_of_text plant (comment_lines lines ++ plan_lines plant []) ≡ Ok []
reads-nothing plant lines sound are = reads-lines plant [] lines sound (omega arith) (λ k d within. absurd (omega arith)) are

-- what the comments and lines of a right answer say
reads-answer : (plant : Plant) (admits : List Start → Type 0) (least : List Start) (count budget used : ℕ) (answer : Answer) (lines : List (List ℕ)) → Sound plant → ((plan : List Start) → admits plan → Feasible plant plan)
    → IsAnswerOf plant admits least count budget used answer → AreRemarks lines → plan_of_text plant (comment_lines lines ++ plan_lines plant (printed_plan answer)) ≡ Ok (printed_plan answer)
reads-answer plant admits least count budget used (Optimal plan earned) lines sound some right are = reads-feasible plant plan lines sound (some plan right.0.admitted) are
reads-answer plant admits least count budget used Infeasible lines sound some right are = reads-nothing plant lines sound are
reads-answer plant admits least count budget used (BudgetSpent None earned bound) lines sound some right are = reads-nothing plant lines sound are
reads-answer plant admits least count budget used (BudgetSpent (Some plan) earned bound) lines sound some right are = reads-feasible plant plan lines sound (some plan right.found.admitted) are

-- the text of a right answer says its plan
pub reads-back : (plant : Plant) (admits : List Start → Type 0) (least : List Start) (count budget used : ℕ) (changed : Option ℕ) (answer : Answer) → Sound plant → ((plan : List Start) → admits plan → Feasible plant plan)
    → IsAnswerOf plant admits least count budget used answer → IsInMoney answer → used ≤ 100000 → IsFew changed → plan_of_text plant (answer_text plant used changed answer) ≡ Ok (printed_plan answer)
reads-back plant admits least count budget used changed answer sound some right small few fewer =
    ap (plan_of_text plant) (answer-lines plant used changed answer) ∙ reads-answer plant admits least count budget used answer (remarks answer used changed) sound some right (are_remarks answer used changed small (omega (arith, few)) fewer)

-- the text of an answer whose plan is short and can be written says it
pub reads-printed : (plant : Plant) (used : ℕ) (changed : Option ℕ) (answer : Answer) → Sound plant → length (printed_plan answer) ≤ most_lines plant → All (IsWritable plant) (printed_plan answer) → IsInMoney answer → used < 2 ^ 64 → IsFew changed
    → plan_of_text plant (answer_text plant used changed answer) ≡ Ok (printed_plan answer)
reads-printed plant used changed answer sound short can small few fewer =
    ap (plan_of_text plant) (answer-lines plant used changed answer) ∙ reads-lines plant (printed_plan answer) (remarks answer used changed) sound short can (are_remarks answer used changed small few fewer)

-- an outcome that is right of the admitted plans, and more than that, and its text are an answer of planning among them
pub planned_if : {E : Type 0} (plant : Plant) (admits : List Start → Type 0) (least : List Start) (count budget : ℕ) (changed : Answer → Option ℕ) (IsRight HasProof : Outcome → Type 0) (outcome : Outcome) (r : Result Reply E)
    → Sound plant → ((plan : List Start) → admits plan → Feasible plant plan) → budget ≤ 100000 → IsOutcomeOf plant admits least count budget outcome → IsRight outcome → HasProof outcome → IsFew (changed outcome.answer)
    → IfOk r (λ reply. (reply.status ≡ status_of outcome.answer) × (reply.text.items ≡ answer_text plant outcome.boxes (changed outcome.answer) outcome.answer)) → IsInMoney outcome.answer
    → IfOk r (λ reply. Planned plant changed IsRight HasProof reply.status reply.text.items)
planned_if plant admits least count budget changed IsRight HasProof outcome (Ok reply) sound some most among right proof fewer is money = record {
  outcome = outcome;
  right = right;
  proof = proof;
  status_is = is.0;
  text_is = is.1;
  reads_back =
      ap (plan_of_text plant) is.1
      ∙ reads-back plant admits least count budget outcome.boxes (changed outcome.answer) outcome.answer sound some among.answer money (omega (arith, among.within, most)) fewer;
}
planned_if plant admits least count budget changed IsRight HasProof outcome (Err e) sound some most among right proof fewer is money = tt
