-- A demonstration: doing nothing is feasible, and a check says yes to the log of an outcome.
use Rattle.std.proofs.Common.{◌≡◌, ◌≢◌, ℕ, pos, zero, suc, ◌<◌, List, [], ◌∷◌, ◌++◌, length, get_or, Option, Some, None, inl, inr, refl, sym, ap, ◌∙◌, subst, arith}
use Rattle.std.specs.Prelude.{◌⊎◌, ◌≤◌, All, IfSome, slice_get, ◌≤ℤ◌, Bool, false, Ok}
use Rattle.std.proofs.lemmas.List.Elements.{All-append, All-cons}
use Rattle.std.proofs.lemmas.Int.{ints}
use Rattle.stn_model.specs.declared.plant.Plant.{Plant}
use Rattle.stn_model.specs.declared.plant.State.{State}
use Rattle.stn_model.specs.declared.answer.Outcome.{Outcome}
use Rattle.stn_model.specs.declared.answer.Answer.{Answer}
use Rattle.stn_model.specs.declared.answer.Answer.TheVariants.{Optimal, Infeasible, BudgetSpent}
use Rattle.stn_model.specs.Answers.{IsOutcome, IsAnswerOf}
use Rattle.stn_model.specs.Points.{boxes, depth_limit}
use Rattle.stn_model.specs.Plant.{state_at, no_state}
use Rattle.stn_model.specs.Stock.{stock, inflow, outflow, received, delivered}
use Rattle.stn_model.specs.Load.{load}
use Rattle.stn_model.specs.Feasible.{Feasible, StockKept}
use Rattle.plant_make.specs.Made.{chained, states_of, plant_made}
use Rattle.plant_make.specs.Meaning.{Puts}
use Rattle.plant_text.specs.Document.{max_bytes}
use Rattle.plant_text.specs.Reading.{reading}
use Rattle.answer_texts.specs.Planning.{status_of}
use Rattle.answer_texts.specs.Checking.{checked_text, claim_text}
use Rattle.demo_commands.specs.Demo.{shown_plant, demo_head, demo_text, answer_line, Shown}
use Rattle.row_kit.specs.declared.program.Program.{Program}
use Rattle.row_set.specs.PlantProgram.{IsMadeOf, plant_root}
use Rattle.valid_log.specs.declared.verdict.LogVerdict.{LogVerdict}
use Rattle.valid_log.specs.declared.verdict.LogVerdict.TheVariants.{Yes}
use Rattle.valid_log.proofs.Again.{same-program, yes-again}
use Rattle.valid_log.specs.PlantLogs.{IsAnyChecked, IsPlantVerdict}
use Rattle.plan_told.specs.Proofs.{HasPlantProof, claim_of, depth_over}

-- ---- doing nothing

-- what holds of the items of each chain holds of those of all
All-chained : {X : Type 0} (P : X → Type 0) (add : ℕ → List X) → ((n : ℕ) → All P (add n)) → (n : ℕ) → All P (chained add n)
All-chained P add is zero = λ k d within. absurd (omega arith)
All-chained P add is (suc n) = All-append P (chained add n) (add n) (All-chained P add is n) (is n)

-- a state has no limits, or holds nothing at first
abbrev IsEasy : State → Type 0
IsEasy state = (state.limits ≡ []) ⊎ (state.initial ≡ 0)

easy-states : (seed chain : ℕ) → All IsEasy (states_of seed chain)
unfolding states_of
easy-states seed chain =
    let feed = get_or (states_of seed chain) 0 no_state in
    let between = get_or (states_of seed chain) 1 no_state in
    let product = get_or (states_of seed chain) 2 no_state in
    All-cons IsEasy feed (between ∷ product ∷ []) (inl refl) (All-cons IsEasy between (product ∷ []) (inr refl) (All-cons IsEasy product [] (inl refl) (λ k d within. absurd (omega arith))))

easy-made : (seed : ℕ) → All IsEasy (shown_plant seed).states
unfolding plant_made
easy-made seed = All-chained IsEasy (states_of seed) (easy-states seed) 4

-- without starts, receipts and deliveries the stock is the initial one
idle-stock : (seed state time : ℕ) → stock (shown_plant seed) [] state time ≡ pos (state_at (shown_plant seed) state).initial
unfolding stock inflow outflow received delivered plant_made
idle-stock seed state time = omega (arith, ints)

no-stock : (limits : Option ℕ) → IfSome limits (λ limit. pos 0 ≤ℤ pos limit)
no-stock None = tt
no-stock (Some limit) = omega (arith, ints)

high-stock : (state : State) (time : ℕ) → IsEasy state → IfSome (slice_get state.limits time) (λ limit. pos state.initial ≤ℤ pos limit)
high-stock state time (inl none) = rw none tt
high-stock state time (inr empty) = rw empty (no-stock (slice_get state.limits time))

idle-kept : (seed state time : ℕ) → state < length (shown_plant seed).states → StockKept (shown_plant seed) [] state time
idle-kept seed state time within = record {
  low = rw (idle-stock seed state time) (omega (arith, ints));
  high = rw (idle-stock seed state time) (high-stock (state_at (shown_plant seed) state) time (easy-made seed state no_state within));
}

-- doing nothing is feasible
idle-Feasible : (seed : ℕ) → Feasible (shown_plant seed) []
unfolding load
idle-Feasible seed = record {
  fits = λ k d within. absurd (omega arith);
  apart = λ i j d less within. absurd (omega arith);
  cleaned = λ k d within. absurd (omega arith);
  begun = λ k d within. absurd (omega arith);
  stocks = λ state time within most. idle-kept seed state time within;
  loads = λ utility period within before. omega arith;
}

-- a right answer on the plant is never that no plan is feasible
found_answer : (seed count budget used : ℕ) (answer : Answer) → IsAnswerOf (shown_plant seed) (Feasible (shown_plant seed)) [] count budget used answer → status_of answer ≢ 1
found_answer seed count budget used (Optimal plan earned) right = λ same. omega (arith, same)
found_answer seed count budget used Infeasible right = λ same. right [] (idle-Feasible seed)
found_answer seed count budget used (BudgetSpent plan earned cap) right = λ same. omega (arith, same)

-- so there is a plan
found-status : (seed budget : ℕ) (outcome : Outcome) → IsOutcome (shown_plant seed) budget outcome → status_of outcome.answer ≢ 1
found-status seed budget outcome right = found_answer seed (boxes (shown_plant seed)) budget outcome.boxes outcome.answer right.answer

-- ---- the log

-- the program of a plant is one
same_program : (plant : Plant) (a b : Program) → IsMadeOf plant a → IsMadeOf plant b → a ≡ b
same_program plant a b made made2 =
    same-program a b (made.rows_are ∙ sym made2.rows_are) (made.profit_is ∙ sym made2.profit_is) (made.base_is ∙ sym made2.base_is) (made.root_is ∙ sym made2.root_is)
    (made.tags_are ∙ sym made2.tags_are) (made.changes_are ∙ sym made2.changes_are)

-- the answer of a check of the log of an outcome is yes to the claim of its answer
own-log : (plant : Plant) (bytes : List ℕ) (verdict : LogVerdict) (outcome : Outcome) → IsAnyChecked plant bytes verdict → HasPlantProof plant (Some bytes) outcome
    → verdict ≡ Yes (claim_of plant outcome.answer)
own-log plant bytes verdict outcome checked proved =
    let program = proved.program in
    let has = proved.has in
    let claim = claim_of plant outcome.answer in
    let depth = depth_over (depth_limit plant) program.root in
    yes-again plant program checked.program (plant_root plant) (plant_root plant) depth (depth_limit plant) bytes claim verdict (same_program plant program checked.program proved.made checked.of_plant.made) (omega arith)
    (subst (λ (b : List ℕ). IsPlantVerdict plant program depth b (Yes claim)) (sym has.told) has.proof.valid) checked.right

-- and its line is that of the claim
pub checked_line : (plant : Plant) (bytes : List ℕ) (verdict : LogVerdict) (line : List ℕ) → IsAnyChecked plant bytes verdict → line ≡ checked_text verdict
    → (outcome : Outcome) → HasPlantProof plant (Some bytes) outcome → line ≡ claim_text (claim_of plant outcome.answer)
unfolding checked_text
checked_line plant bytes verdict line checked is outcome has = is ∙ ap checked_text (own-log plant bytes verdict outcome checked has)

-- ---- the answer

-- four lines on the outcome of planning the plant of the seed
pub shown : (seed : ℕ) (plant : Plant) (outcome : Outcome) (status : ℕ) (text line : List ℕ) → plant ≡ shown_plant seed → IsOutcome plant 500 outcome → status ≡ status_of outcome.answer
    → line ≡ claim_text (claim_of plant outcome.answer) → text ≡ demo_head seed plant ++ (answer_line outcome.answer ++ line) → Shown seed status text
shown seed plant outcome status text line same right is_status is_line is_text =
    let right_of = subst (λ (p : Plant). IsOutcome p 500 outcome) same right in record {
      outcome = outcome;
      right = right_of;
      status_is = is_status;
      found = λ one. found-status seed 500 outcome right_of (sym is_status ∙ one);
      text_is = is_text ∙ (ap (λ (l : List ℕ). demo_head seed plant ++ (answer_line outcome.answer ++ l)) is_line ∙ ap (λ (p : Plant). demo_text seed p outcome.answer) same);
    }

-- what is read of the text of a made plant, where it is not too long for a file that is not of version 3
pub read-again : (seed : ℕ) (made read : Plant) (old new bytes : List ℕ) → made ≡ plant_made seed 4 → Puts made old new → old ≡ [] → bytes ≡ new → length new ≤ 1048576 → reading bytes ≡ Ok read → read ≡ shown_plant seed
unfolding plant_made
read-again seed made read old new bytes is puts none same short reads =
    let large : made.large ≡ false = ap (λ (p : Plant). p.large) is in
    let text : new ≡ puts.text = puts.appended ∙ ap (λ (o : List ℕ). o ++ puts.text) none in
    let few : length puts.text ≤ 1048576 = subst (λ (t : List ℕ). length t ≤ 1048576) text short in
    let fits : length puts.text ≤ max_bytes made.large = subst (λ (l : Bool). length puts.text ≤ max_bytes l) (sym large) few in
    let again : reading puts.text ≡ Ok made = puts.reads fits in
    let plain : read ≡ made = cc in
    plain ∙ is
