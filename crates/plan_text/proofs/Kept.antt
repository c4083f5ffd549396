-- What a plan that was read keeps: its starts can be written again, and there are not too many.
use Rattle.std.proofs.Common.{◌≡◌, ℕ, ◌+◌, ◌<◌, ◌≤◌, ◌==◌, ◌||◌, Bool, true, false, cond, ltb, nat_lt, if◌then◌else◌, Option, Some, None, List, [], ◌∷◌, ◌++◌, All, length, position, subst, sym, ◌∙◌, refl, arith, length-append}
use Rattle.std.specs.Prelude.{Result, Ok, Err, IfOk}
use Rattle.std.specs.List.{position_or_len}
use Rattle.std.specs.Option.{option_map_or}
use Rattle.std.proofs.lemmas.List.Elements.{All-append, All-cons, All-nil}
use Rattle.std.proofs.lemmas.Bool.Decides.{nat_tests}
use Rattle.text_words.specs.Numbers.{number_below}
use Rattle.text_words.proofs.Printed.{number_below-printed}
use Rattle.stn_model.specs.declared.plant.Plant.{Plant}
use Rattle.stn_model.specs.declared.start.Start.{Start}
use Rattle.plan_text.specs.declared.fault.PlanFault.{PlanFault}
use Rattle.plan_text.specs.declared.fault.PlanStop.{PlanStop}
use Rattle.plan_text.specs.Published.{bad_line, unknown_name, too_many_lines, too_long, most_bytes, most_lines, number_limit}
use Rattle.plan_text.specs.PlanText.{is_comment, is_empty, unit_named, task_named, named_start, start_of, line_start, text_lines, plan_of_lines, plan_of_text, with_start, after_line, ReadsPlan}
use Rattle.plan_text.specs.ReadsBack.{IsWritable}
use Rattle.plan_text.proofs.Reading.{read_on, and_then, word_of, rest_of, line_start-cuts, plan_of_lines-is, plan_of_text-short}

-- the starts can be written, and there are not too many
pub record IsKept (plant : Plant) (plan : List Start) : Type 0 where
  pub few : length plan ≤ most_lines plant
  pub writable : All (IsWritable plant) plan

-- what is found is there
found_within : (n l at : ℕ) → cond (ltb n l) (Some n) None ≡ Some at → at < l
found_within n l at is = grind (arith, nat_tests)

position-within : {X : Type 0} (p : X → Bool) (xs : List X) (i : ℕ) → position p xs ≡ Some i → i < length xs
position-within p xs i is = found_within (position_or_len p xs) (length xs) i is

-- a choice that gave a start
opened : {A : Type 0} (f : A → Result Start ℕ) (o : Option A) (kind : ℕ) (start : Start) → option_map_or f o (Err kind) ≡ Ok start → (v : A) × (o ≡ Some v) × (f v ≡ Ok start)
opened f None kind start is = absurd (cc)
opened f (Some v) kind start is = (v, refl, is)

not_failed : {A E : Type 0} (b : Bool) (e : E) (answer : Result A E) (x : A) → (if b then Err e else answer) ≡ Ok x → answer ≡ Ok x
not_failed true e answer x is = absurd (cc)
not_failed false e answer x is = is

-- the start with these numbers
abbrev made : ℕ → ℕ → ℕ → ℕ → Result Start ℕ
made period unit task quanta = Ok (record { period = period; unit = unit; task = task; quanta = quanta })

-- a start as an answer
abbrev ok : Start → Result Start ℕ
ok start = Ok start

-- what is given is what was found
same_start : (plant : Plant) (found start : Start) → ok found ≡ Ok start → IsWritable plant found → IsWritable plant start
same_start plant found start is writable = let same : found ≡ start = cc in subst (IsWritable plant) same writable

-- the start that four words say can be written
start_of-writable : (plant : Plant) (period unit task quanta : List ℕ) (start : Start) → start_of plant period unit task quanta ≡ Ok start → IsWritable plant start
unfolding start_of
start_of-writable plant period unit task quanta start is =
    let said = not_failed (is_empty unit || is_empty task) bad_line _ start is in
    let p = opened (λ a. option_map_or (λ b. named_start plant a unit task b) (number_below number_limit quanta) (Err bad_line)) (number_below number_limit period) bad_line start said in
    let q = opened (λ b. named_start plant p.0 unit task b) (number_below number_limit quanta) bad_line start p.2 in
    let u = opened (λ a. option_map_or (λ b. made p.0 a b q.0) (task_named plant task) (Err unknown_name)) (unit_named plant unit) unknown_name start q.2 in
    let t = opened (λ b. made p.0 u.0 b q.0) (task_named plant task) unknown_name start u.2 in
    same_start plant _ start t.2 (record {
      named = record { unit = position-within _ plant.units u.0 u.1; task = position-within _ plant.tasks t.0 t.1 };
      period = (number_below-printed number_limit period (omega arith) (Some p.0) (sym p.1)).0;
      quanta = (number_below-printed number_limit quanta (omega arith) (Some q.0) (sym q.1)).0;
    })

-- so can the start that a line says
line_start-writable : (plant : Plant) (line : List ℕ) (start : Start) → line_start plant line ≡ Ok start → IsWritable plant start
line_start-writable plant line start is =
    start_of-writable plant (word_of line) (word_of (rest_of line)) (word_of (rest_of (rest_of line))) (rest_of (rest_of (rest_of line))) start (sym (line_start-cuts plant line) ∙ is)

-- a line keeps the plan before it
kept_by : (plant : Plant) (number : ℕ) (done more : List Start) (comment full : Bool) (answer : Result Start ℕ) (fault : PlanFault) → IsKept plant done
    → (full ≡ false → length done < most_lines plant) → ((start : Start) → answer ≡ Ok start → IsWritable plant start)
    → (if comment then Ok done else (if full then Err fault else with_start number done answer)) ≡ Ok more → IsKept plant more
kept_by plant number done more true full answer fault kept room writable is = let same : done ≡ more = cc in subst (IsKept plant) same kept
kept_by plant number done more false true answer fault kept room writable is = absurd (cc)
kept_by plant number done more false false (Ok start) fault kept room writable is =
    let same : done ++ start ∷ [] ≡ more = cc in
    subst (IsKept plant) same (record {
      few = omega (arith, length-append done (start ∷ []), room refl);
      writable = All-append (IsWritable plant) done (start ∷ []) kept.writable (All-cons (IsWritable plant) start [] (writable start refl) (All-nil (IsWritable plant)));
    })
kept_by plant number done more false false (Err kind) fault kept room writable is = absurd (cc)

-- a test of fullness that failed
has_room : (n most : ℕ) → n ≤ most → (n == most) ≡ false → n < most
has_room n most few other = grind (arith, nat_tests)

after_line-kept : (plant : Plant) (number : ℕ) (done more : List Start) (line : List ℕ) → IsKept plant done → after_line plant number done line ≡ Ok more → IsKept plant more
unfolding after_line
after_line-kept plant number done more line kept is =
    kept_by plant number done more (is_comment line) (length done == most_lines plant) (line_start plant line) (record { kind = too_many_lines; line = number }) kept (has_room (length done) (most_lines plant) kept.few) (line_start-writable plant line) is

-- what went on
went_on : (answer : Result (List Start) PlanFault) (next : List Start → Result (List Start) PlanFault) (plan : List Start) → and_then answer next ≡ Ok plan → (more : List Start) × (answer ≡ Ok more) × (next more ≡ Ok plan)
went_on (Ok more) next plan is = (more, refl, is)
went_on (Err fault) next plan is = absurd (cc)

-- lines keep the plan before them
read_on-kept : (plant : Plant) (number : ℕ) (done plan : List Start) (lines : List (List ℕ)) → IsKept plant done → read_on plant number done lines ≡ Ok plan → IsKept plant plan
read_on-kept plant number done plan [] kept is = let same : done ≡ plan = cc in subst (IsKept plant) same kept
read_on-kept plant number done plan (line ∷ lines) kept is =
    let next = went_on (after_line plant (number + 1) done line) (λ more. read_on plant (number + 1) more lines) plan is in
    read_on-kept plant (number + 1) next.0 plan lines (after_line-kept plant (number + 1) done next.0 line kept next.1) next.2

-- the plan that a text says is kept
plan_of_text-kept : (plant : Plant) (text : List ℕ) (plan : List Start) → plan_of_text plant text ≡ Ok plan → IsKept plant plan
unfolding plan_of_text
plan_of_text-kept plant text plan is =
    let said = not_failed (nat_lt (most_bytes plant) (length text)) (record { kind = too_long; line = 0 }) (plan_of_lines plant (text_lines text)) plan is in
    read_on-kept plant 0 [] plan (text_lines text) (record { few = omega arith; writable = All-nil (IsWritable plant) }) (sym (plan_of_lines-is plant (text_lines text)) ∙ said)

-- so is the plan that an answer has
pub IsKept-answer : (plant : Plant) (text : List ℕ) (answer : Result (List Start) PlanStop) → ReadsPlan (plan_of_text plant text) answer → IfOk answer (IsKept plant)
IsKept-answer plant text (Ok plan) gives = plan_of_text-kept plant text plan gives
IsKept-answer plant text (Err stop) gives = tt

pub lines-answer : (plant : Plant) (answer : Result (List Start) PlanStop) → IfOk answer (IsKept plant) → IfOk answer (λ plan. length plan ≤ most_lines plant)
lines-answer plant (Ok plan) kept = kept.few
lines-answer plant (Err stop) kept = tt

-- whatever the plant, there are not too many
lines_most : (large : Bool) → cond large 4096 2048 ≤ 4096
lines_most true = omega arith
lines_most false = omega arith

pub few-answer : (plant : Plant) (answer : Result (List Start) PlanStop) → IfOk answer (IsKept plant) → IfOk answer (λ plan. length plan ≤ 4096)
few-answer plant (Ok plan) kept = omega (arith, kept.few, lines_most plant.large)
few-answer plant (Err stop) kept = tt

pub writable-answer : (plant : Plant) (answer : Result (List Start) PlanStop) → IfOk answer (IsKept plant) → IfOk answer (All (IsWritable plant))
writable-answer plant (Ok plan) kept = kept.writable
writable-answer plant (Err stop) kept = tt

-- an answer of the lines is one of a text that is not too long
pub ReadsPlan-short : (plant : Plant) (text : List ℕ) (answer : Result (List Start) PlanStop) → length text ≤ most_bytes plant → ReadsPlan (plan_of_lines plant (text_lines text)) answer → ReadsPlan (plan_of_text plant text) answer
ReadsPlan-short plant text answer short gives = rw (plan_of_text-short plant text short) gives
