-- A plan text read line by line.
use Rattle.std.proofs.Common.{◌≡◌, ℕ, ◌+◌, ◌<◌, ◌≤◌, ◌==◌, Bool, true, false, not, cond, eqb, ◌||◌, ◌^◌, decimal, if◌then◌else◌, ◌⊎◌, inl, inr, Option, Some, None, option_map, option_to_list, List, [], ◌∷◌, ◌++◌, length, get_or, filter_map, slice_get, sym, ap, ◌∙◌, refl, arith, append_assoc, length-append, length-drop}
use Rattle.std.specs.Prelude.{Result, Ok, Err}
use Rattle.std.specs.List.{slice_split, position_or_len, before_first, after_first, range_with_len, cons_option}
use Rattle.std.specs.Result.{result_ok, result_err}
use Rattle.std.specs.Option.{option_map_or}
use Rattle.std.proofs.lemmas.List.{append-nil}
use Rattle.std.proofs.lemmas.List.Sums.{sum_by-append}
use Rattle.std.proofs.lemmas.List.Elements.{filter_map-append}
use Rattle.std.proofs.lemmas.List.Splits.{length-slice_split}
use Rattle.std.proofs.lemmas.Bool.Decides.{nat_tests}
use Rattle.std.proofs.lemmas.Fmt.{decimal_nonempty}
use Rattle.std.proofs.Math.Seq.{get_or-append_seam, take-append_seam}
use Rattle.text_words.specs.Faults.{fault_or}
use Rattle.text_words.specs.Numbers.{number_below}
use Rattle.text_words.proofs.Cuts.{cut_cases, cut_rejoins}
use Rattle.text_words.proofs.Printed.{number_below-is, decimal-lacks}
use Rattle.stn_model.specs.declared.plant.Plant.{Plant}
use Rattle.stn_model.specs.declared.start.Start.{Start}
use Rattle.plan_text.specs.declared.fault.PlanFault.{PlanFault}
use Rattle.plan_text.specs.Published.{bad_line, too_many_lines, too_long, most_bytes, most_lines, number_limit}
use Rattle.plan_text.specs.declared.fault.PlanStop.{PlanStop}
use Rattle.plan_text.specs.declared.fault.PlanStop.TheVariants.{Fault, Memory}
use Rattle.plan_text.specs.PlanText.{lines_of_parts, text_lines, line_words, is_comment, is_empty, named_start, start_of, start_of_words, line_start, start_count, fault_at, fault_of_lines, said, plan_of_lines, plan_of_text, IsStop, ReadsPlan, with_start, after_line}

-- a first part that is followed by others is a line
pub lines_of_parts-cons : (part : List ℕ) (parts : List (List ℕ)) → 0 < length parts → lines_of_parts (part ∷ parts) ≡ part ∷ lines_of_parts parts
lines_of_parts-cons part [] some = absurd (omega arith)
lines_of_parts-cons part (next ∷ parts) some = refl

-- one part that is not empty is a line
lines_of_parts-one : (part : List ℕ) → 0 < length part → lines_of_parts (part ∷ []) ≡ part ∷ []
lines_of_parts-one part some = grind (arith, nat_tests)

-- an empty text has no line
pub text_lines-nil : text_lines [] ≡ []
unfolding text_lines
text_lines-nil = refl

-- the first line of a text stands before the first line feed, and the others after it
pub text_lines-step : (text : List ℕ) → 0 < length text → text_lines text ≡ before_first (λ b. b == 10) text ∷ text_lines (after_first (λ b. b == 10) text)
unfolding text_lines
text_lines-step text some =
    let p : ℕ → Bool = λ b. b == 10 in
    elim (cut_cases p text) [
      | inl cut ↦ ap lines_of_parts cut.1 ∙ lines_of_parts-cons (before_first p text) (slice_split p (after_first p text)) (omega (arith, length-slice_split p (after_first p text)))
      | inr whole ↦ ap lines_of_parts whole.2 ∙ lines_of_parts-one text some ∙ rw (whole.0, whole.1) refl
    ]

-- a line is read as four words by three cuts at a blank
abbrev pub rest_of : List ℕ → List ℕ
rest_of text = after_first (λ b. b == 32) text

abbrev pub word_of : List ℕ → List ℕ
word_of text = before_first (λ b. b == 32) text

-- a choice without a second number
bad : (empty : Bool) (period quanta : Option ℕ) (named : ℕ → ℕ → Result Start ℕ) → quanta ≡ None
    → (if empty then Err bad_line else option_map_or (λ p. option_map_or (named p) quanta (Err bad_line)) period (Err bad_line)) ≡ Err bad_line
bad true period quanta named none = refl
bad false None quanta named none = refl
bad false (Some p) quanta named none = rw none refl

-- words without a number at their end say no start
no_number : (plant : Plant) (period unit task quanta : List ℕ) → number_below number_limit quanta ≡ None → start_of plant period unit task quanta ≡ Err bad_line
unfolding start_of
no_number plant period unit task quanta none =
    bad (is_empty unit || is_empty task) (number_below number_limit period) (number_below number_limit quanta) (λ p q. named_start plant p unit task q) none

-- an empty word is no number
empty_word : number_below number_limit [] ≡ None
empty_word = sym (number_below-is number_limit [] None (omega arith) (λ n small printed. omega (arith, ap length printed, decimal_nonempty n (omega arith))))

-- a number has no blank
no_blank : (n : ℕ) (front back : List ℕ) → n < 10 ^ 64 → decimal n ≡ front ++ 32 ∷ back → ⊥
no_blank n front back small joined =
    let other : eqb (get_or (decimal n) (length front) 0) 32 ≡ false = decimal-lacks n 32 small (λ r. omega arith) (length front) 0 (omega (arith, ap length joined, length-append front (32 ∷ back))) in
    let blank : get_or (decimal n) (length front) 0 ≡ 32 = ap (λ (x : List ℕ). get_or x (length front) 0) joined ∙ get_or-append_seam front 32 back 0 in
    grind (arith, nat_tests)

-- a word with a blank is no number
blank_word : (word : List ℕ) → position_or_len (λ b. b == 32) word < length word → number_below number_limit word ≡ None
blank_word word there = sym (number_below-is number_limit word None (omega arith) (λ n small printed. no_blank n (word_of word) (rest_of word) (omega arith) (sym printed ∙ cut_rejoins 32 word there)))

-- five words or more say no start
five_words : (plant : Plant) (a b c d : List ℕ) (parts : List (List ℕ)) → 0 < length parts → start_of_words plant (a ∷ b ∷ c ∷ d ∷ parts) ≡ Err bad_line
five_words plant a b c d [] some = absurd (omega arith)
five_words plant a b c d (part ∷ parts) some = refl

-- after three words, what is left is the fourth
fourth_word : (plant : Plant) (a b c text : List ℕ) → start_of_words plant (a ∷ b ∷ c ∷ line_words text) ≡ start_of plant a b c text
fourth_word plant a b c text =
    elim (cut_cases (λ w. w == 32) text) [
      | inl cut ↦ ap (λ (parts : List (List ℕ)). start_of_words plant (a ∷ b ∷ c ∷ parts)) cut.1 ∙ five_words plant a b c (word_of text) (line_words (rest_of text)) (omega (arith, length-slice_split (λ w. w == 32) (rest_of text))) ∙ sym (no_number plant a b c text (blank_word text cut.0))
      | inr whole ↦ ap (λ (parts : List (List ℕ)). start_of_words plant (a ∷ b ∷ c ∷ parts)) whole.2
    ]

-- after two words, what is left has the third
third_word : (plant : Plant) (a b text : List ℕ) → start_of_words plant (a ∷ b ∷ line_words text) ≡ start_of plant a b (word_of text) (rest_of text)
third_word plant a b text =
    elim (cut_cases (λ w. w == 32) text) [
      | inl cut ↦ ap (λ (parts : List (List ℕ)). start_of_words plant (a ∷ b ∷ parts)) cut.1 ∙ fourth_word plant a b (word_of text) (rest_of text)
      | inr whole ↦ ap (λ (parts : List (List ℕ)). start_of_words plant (a ∷ b ∷ parts)) whole.2 ∙ sym (no_number plant a b (word_of text) (rest_of text) (rw whole.1 empty_word))
    ]

-- after one word, what is left has the second
second_word : (plant : Plant) (a text : List ℕ) → start_of_words plant (a ∷ line_words text) ≡ start_of plant a (word_of text) (word_of (rest_of text)) (rest_of (rest_of text))
second_word plant a text =
    elim (cut_cases (λ w. w == 32) text) [
      | inl cut ↦ ap (λ (parts : List (List ℕ)). start_of_words plant (a ∷ parts)) cut.1 ∙ third_word plant a (word_of text) (rest_of text)
      | inr whole ↦ ap (λ (parts : List (List ℕ)). start_of_words plant (a ∷ parts)) whole.2 ∙ sym (no_number plant a (word_of text) (word_of (rest_of text)) (rest_of (rest_of text)) (rw whole.1 empty_word))
    ]

-- three cuts at a blank give the four words of a line
pub line_start-cuts : (plant : Plant) (line : List ℕ) → line_start plant line ≡ start_of plant (word_of line) (word_of (rest_of line)) (word_of (rest_of (rest_of line))) (rest_of (rest_of (rest_of line)))
line_start-cuts plant line =
    elim (cut_cases (λ w. w == 32) line) [
      | inl cut ↦ ap (start_of_words plant) cut.1 ∙ second_word plant (word_of line) (rest_of line)
      | inr whole ↦ ap (start_of_words plant) whole.2 ∙ sym (no_number plant (word_of line) (word_of (rest_of line)) (word_of (rest_of (rest_of line))) (rest_of (rest_of (rest_of line))) (rw whole.1 empty_word))
    ]

-- what comes after, where the plan before it has no fault
abbrev pub and_then : Result (List Start) PlanFault → (List Start → Result (List Start) PlanFault) → Result (List Start) PlanFault
and_then (Ok plan) next = next plan
and_then (Err fault) next = Err fault

-- the plan that the lines say after this plan and so many lines, or the first fault
abbrev pub read_on : Plant → ℕ → List Start → List (List ℕ) → Result (List Start) PlanFault
read_on plant number plan [] = Ok plan
read_on plant number plan (line ∷ lines) = and_then (after_line plant (number + 1) plan line) (λ more. read_on plant (number + 1) more lines)

-- the lines from here on that have a fault
abbrev faults_from : Plant → List (List ℕ) → ℕ → ℕ → List PlanFault
faults_from plant lines place count = filter_map (fault_at plant lines) (range_with_len place count)

-- A line has a fault, and it ends the plan; or it has none, and the plan goes on with what it says.
abbrev Agrees : Option PlanFault → Result (List Start) PlanFault → List Start → Option Start → ℕ → Type 0
Agrees fault after plan says counted =
    ((f : PlanFault) × (fault ≡ Some f) × (after ≡ Err f)) ⊎ ((fault ≡ None) × (after ≡ Ok (plan ++ option_to_list says)) × (length (option_to_list says) ≡ counted))

-- the same, by what the line is: a comment, one line too many, or a start or not
agrees_by : (comment full : Bool) (start : Result Start ℕ) (plan : List Start) (number : ℕ)
    → Agrees (if comment then None else (if full then Some (record { kind = too_many_lines; line = number }) else option_map (λ kind. record { kind = kind; line = number }) (result_err start)))
    (if comment then Ok plan else (if full then Err (record { kind = too_many_lines; line = number }) else with_start number plan start))
    plan (if comment then None else result_ok start) (if not comment then 1 else 0)
agrees_by true full start plan number = inr (refl, ap Ok (sym (append-nil plan)), refl)
agrees_by false true start plan number = inl (record { kind = too_many_lines; line = number }, refl, refl)
agrees_by false false (Ok start) plan number = inr (refl, refl, refl)
agrees_by false false (Err kind) plan number = inl (record { kind = kind; line = number }, refl, refl)

-- a line after others
agrees : (plant : Plant) (done : List (List ℕ)) (line : List ℕ) (rest : List (List ℕ)) (plan : List Start) → start_count done ≡ length plan
    → Agrees (fault_at plant (done ++ line ∷ rest) (length done)) (after_line plant (length done + 1) plan line) plan (said plant line) (if not (is_comment line) then 1 else 0)
unfolding fault_at after_line
agrees plant done line rest plan count =
    rw (get_or-append_seam done line rest [])
    (rw (take-append_seam done (line ∷ rest))
    (rw count (agrees_by (is_comment line) (length plan == most_lines plant) (line_start plant line) plan (length done + 1))))

-- what one item gives
one_item : {X : Type 0} (item : Option X) → cons_option item [] ≡ option_to_list item
one_item None = refl
one_item (Some x) = refl

-- one line more says what it says
said_more : (plant : Plant) (done : List (List ℕ)) (line : List ℕ) (plan : List Start) → plan ≡ filter_map (said plant) done → plan ++ option_to_list (said plant line) ≡ filter_map (said plant) (done ++ line ∷ [])
said_more plant done line plan is = ap (λ (x : List Start). x ++ option_to_list (said plant line)) is ∙ ap (λ (x : List Start). filter_map (said plant) done ++ x) (sym (one_item (said plant line))) ∙ sym (filter_map-append (said plant) done (line ∷ []))

-- and counts as one, if it is no comment
count_more : (done : List (List ℕ)) (line : List ℕ) (plan : List Start) (says : Option Start) → start_count done ≡ length plan → length (option_to_list says) ≡ (if not (is_comment line) then 1 else 0) → start_count (done ++ line ∷ []) ≡ length (plan ++ option_to_list says)
count_more done line plan says count counted =
    sum_by-append (λ (l : List ℕ). cond (not (is_comment l)) 1 0) done (line ∷ []) ∙ omega (arith, count, counted, length-append plan (option_to_list says))

-- reading line by line gives what the lines say
read_on-is : (plant : Plant) (done rest : List (List ℕ)) (plan : List Start) → plan ≡ filter_map (said plant) done → start_count done ≡ length plan
    → fault_or (slice_get (faults_from plant (done ++ rest) (length done) (length rest)) 0) (filter_map (said plant) (done ++ rest)) ≡ read_on plant (length done) plan rest
read_on-is plant done [] plan is count = ap Ok (ap (filter_map (said plant)) (append-nil done) ∙ sym is)
read_on-is plant done (line ∷ rest) plan is count =
    elim (agrees plant done line rest plan count) [
      | inl fails ↦ rw fails.1 (rw fails.2 refl)
      | inr holds ↦
          let more = read_on-is plant (done ++ line ∷ []) rest (plan ++ option_to_list (said plant line)) (said_more plant done line plan is) (count_more done line plan (said plant line) count holds.2) in
          rw holds.0 (rw holds.1 (rw (append_assoc done (line ∷ []) rest, length-append done (line ∷ [])) at more))
    ]

pub plan_of_lines-is : (plant : Plant) (lines : List (List ℕ)) → plan_of_lines plant lines ≡ read_on plant 0 [] lines
unfolding plan_of_lines fault_of_lines
plan_of_lines-is plant lines = read_on-is plant [] lines [] refl refl

-- the fault of the next line is the fault of the text
pub line_stops : (plant : Plant) (number : ℕ) (plan : List Start) (rest : List ℕ) (stop : PlanStop) → 0 < length rest
    → IsStop (after_line plant (number + 1) plan (before_first (λ b. b == 10) rest)) stop → IsStop (read_on plant number plan (text_lines rest)) stop
line_stops plant number plan rest (Fault fault) some stops = rw (text_lines-step rest some) (rw stops refl)
line_stops plant number plan rest Memory some stops = tt

-- after a line without a fault the text goes on
pub line_goes_on : (plant : Plant) (number : ℕ) (plan more : List Start) (rest : List ℕ) → 0 < length rest
    → after_line plant (number + 1) plan (before_first (λ b. b == 10) rest) ≡ Ok more → read_on plant number plan (text_lines rest) ≡ read_on plant (number + 1) more (text_lines (after_first (λ b. b == 10) rest))
line_goes_on plant number plan more rest some goes_on = rw (text_lines-step rest some) (rw goes_on refl)

-- what comes after a byte is shorter
pub length-after_first : (p : ℕ → Bool) (text : List ℕ) → 0 < length text → length (after_first p text) + 1 ≤ length text
length-after_first p text some = omega (arith, length-drop (position_or_len p text + 1) text)

-- an answer that stops
pub gives_stop : (expected : Result (List Start) PlanFault) (answer : Result (List Start) PlanStop) (stop : PlanStop) → answer ≡ Err stop → IsStop expected stop → ReadsPlan expected answer
gives_stop expected answer stop is stops = rw is stops

-- a text that is not too long
pub plan_of_text-short : (plant : Plant) (text : List ℕ) → length text ≤ most_bytes plant → plan_of_text plant text ≡ plan_of_lines plant (text_lines text)
unfolding plan_of_text
plan_of_text-short plant text short = grind (arith, nat_tests)

-- a text that is too long
pub plan_of_text-long : (plant : Plant) (text : List ℕ) → most_bytes plant < length text → plan_of_text plant text ≡ Err (record { kind = too_long; line = 0 })
unfolding plan_of_text
plan_of_text-long plant text long = grind (arith, nat_tests)

-- at the end of the text the plan is whole
pub read_on-end : (plant : Plant) (number : ℕ) (plan : List Start) (rest : List ℕ) → length rest ≡ 0 → read_on plant number plan (text_lines rest) ≡ Ok plan
read_on-end plant number plan [] none = rw text_lines-nil refl
read_on-end plant number plan (byte ∷ rest) none = absurd (omega arith)

-- what a test of emptiness tells
pub tells_some : (bytes : List ℕ) (empty : Bool) → empty ≡ (length bytes == 0) → empty ≡ false → 0 < length bytes
tells_some bytes empty is filled = grind (arith, nat_tests)

pub tells_none : (bytes : List ℕ) (empty : Bool) → empty ≡ (length bytes == 0) → empty ≡ true → length bytes ≡ 0
tells_none bytes empty is none = grind (arith, nat_tests)

-- the same, of the cuts one by one
pub line_start-parts : (plant : Plant) (line a r b q c d : List ℕ) → a ≡ word_of line → r ≡ rest_of line → b ≡ word_of r → q ≡ rest_of r → c ≡ word_of q → d ≡ rest_of q → start_of plant a b c d ≡ line_start plant line
line_start-parts plant line a r b q c d is_a is_r is_b is_q is_c is_d =
    rw (is_c, is_d, is_q, is_a, is_b, is_r) (sym (line_start-cuts plant line))
